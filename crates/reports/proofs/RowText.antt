-- A row as it is written: what stands in each column, in the width of its hole.
use Rattle.std.proofs.Common.{◌≡◌, ℕ, ◌-◌, ◌^◌, ◌<◌, Option, List, [], ◌++◌, codes, ap, sym, ◌∙◌, arith, append-nil, append_assoc}
use Rattle.std.specs.Prelude.{decimal}
use Rattle.std.specs.Fmt.{format_spec, styled_decimal, styled_text, HasWritten}
use Rattle.std.specs.declared.fmt.Formatter.{Formatter}
use Rattle.std.proofs.Output.{has_written_append, has_written_of_eq}
use Rattle.std.specs.Option.{option_map_or}
use Rattle.records.specs.declared.record.Record.{Record}
use Rattle.registry.specs.declared.book_name.BookName.{BookName}
use Rattle.reports.specs.Texts.{kind_name}
use Rattle.reports.specs.Table.{right, left, cell, mask_cell, cells_of, procedure_cell, record_row}
use Rattle.reports.specs.declared.cells.Cells.{Cells}
use Rattle.reports.proofs.Columns.{number_right, cell_right, kind_left}

-- the first five columns, each behind two blanks, and the other six
abbrev pub written_first : (a b c d e : List ℕ) → List ℕ
written_first a b c d e =
    codes "  " ++ (a ++ (codes "  " ++ (b ++ (codes "  " ++ (c ++ (codes "  " ++ (d ++ (codes "  " ++ e))))))))

abbrev pub written_last : (f g h i j k : List ℕ) → List ℕ
written_last f g h i j k =
    codes "  " ++ (f ++ (codes "  " ++ (g ++ (codes "  " ++ (h ++ (codes "  " ++ (i ++ (codes "  " ++ (j ++ (codes "  " ++ k))))))))))

first_then : (a b c d e rest : List ℕ) → written_first a b c d e ++ rest
    ≡ codes "  " ++ (a ++ (codes "  " ++ (b ++ (codes "  " ++ (c ++ (codes "  " ++ (d ++ (codes "  " ++ (e ++ rest)))))))))
first_then a b c d e rest = simp append_assoc

module _ (book : BookName) (number : ℕ) (x : Record) (cells : Cells) (kind : List ℕ) (is : cells ≡ cells_of x) (named : kind ≡ kind_name x) where
  -- a number of the record, or a dash, flush right
  filled :
      (w : ℕ) (s : _) (field : Cells → Option ℕ) → 0 < w → s ≡ format_spec 32 3 0 w (2 ^ 64 - 1)
      → option_map_or (styled_decimal s) (field cells) (styled_text s (codes "-")) ≡ right w (cell (field (cells_of x)))
  filled w s field some e = rw (e, is) (cell_right w (field (cells_of x)) some)

  -- the two parts of a row, each written with the widths of its holes
  pub row_written :
      {W : Type 0} (took : W → List ℕ → W → Type 0) (from between to : Formatter W) (s1 s2 s3 s4 s5 s6 s7 s8 s9 : _)
      → s1 ≡ format_spec 32 3 0 6 (2 ^ 64 - 1) → s2 ≡ format_spec 32 1 0 13 (2 ^ 64 - 1) → s3 ≡ format_spec 32 3 0 3 (2 ^ 64 - 1)
      → s4 ≡ format_spec 32 3 0 5 (2 ^ 64 - 1) → s5 ≡ format_spec 32 3 0 6 (2 ^ 64 - 1) → s6 ≡ format_spec 32 3 0 4 (2 ^ 64 - 1)
      → s7 ≡ format_spec 32 3 0 2 (2 ^ 64 - 1) → s8 ≡ format_spec 32 3 0 2 (2 ^ 64 - 1) → s9 ≡ format_spec 32 3 0 10 (2 ^ 64 - 1)
      → HasWritten took from
      (written_first (styled_decimal s1 number) (styled_text s2 kind)
      (option_map_or (styled_decimal s3) cells.row (styled_text s3 (codes "-")))
      (option_map_or (styled_decimal s4) cells.first (styled_text s4 (codes "-")))
      (option_map_or (styled_decimal s5) cells.second (styled_text s5 (codes "-"))))
      between
      → HasWritten took between
      (written_last (procedure_cell book x)
      (option_map_or (styled_decimal s6) cells.role (styled_text s6 (codes "-")))
      (option_map_or (styled_decimal s7) cells.a (styled_text s7 (codes "-")))
      (option_map_or (styled_decimal s8) cells.b (styled_text s8 (codes "-")))
      (option_map_or (styled_decimal s9) cells.amount (styled_text s9 (codes "-")))
      (mask_cell cells.mask))
      to
      → HasWritten took from (record_row book number x) to
  row_written took from between to s1 s2 s3 s4 s5 s6 s7 s8 s9 e1 e2 e3 e4 e5 e6 e7 e8 e9 first last =
      let full = cells_of x in
      let t1 : styled_decimal s1 number ≡ right 6 (decimal number) = rw e1 (number_right 6 number) in
      let t2 : styled_text s2 kind ≡ left 13 (kind_name x) = rw (e2, named) (kind_left x) in
      let t3 = filled 3 s3 (λ c. c.row) (omega arith) e3 in
      let t4 = filled 5 s4 (λ c. c.first) (omega arith) e4 in
      let t5 = filled 6 s5 (λ c. c.second) (omega arith) e5 in
      let t6 = filled 4 s6 (λ c. c.role) (omega arith) e6 in
      let t7 = filled 2 s7 (λ c. c.a) (omega arith) e7 in
      let t8 = filled 2 s8 (λ c. c.b) (omega arith) e8 in
      let t9 = filled 10 s9 (λ c. c.amount) (omega arith) e9 in
      let mask : mask_cell cells.mask ≡ mask_cell full.mask ++ [] = ap (λ c. mask_cell c.mask) is ∙ sym (append-nil (mask_cell full.mask)) in
      has_written_of_eq took from _ _ to
      ((λ i. written_first (t1 i) (t2 i) (t3 i) (t4 i) (t5 i) ++ written_last (procedure_cell book x) (t6 i) (t7 i) (t8 i) (t9 i) (mask i))
      ∙ first_then _ _ _ _ _ _)
      (has_written_append took from _ between _ to first last)
