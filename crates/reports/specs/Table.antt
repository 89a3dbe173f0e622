-- The audit as a table, for people: a head, and a row for each record.
use Rattle.std.specs.Prelude.{ℕ, suc, ◌-◌, List, [], ◌∷◌, ◌++◌, length, replicate, flat_map, Some, None, Option, codes, decimal, unwrap_or}
use Rattle.records.specs.declared.record.Record.{Record}
use Rattle.records.specs.declared.record.Record.TheVariants as entry
use Rattle.records.specs.Texts.{hexadecimal}
use Rattle.registry.specs.declared.book_name.BookName.{BookName}
use Rattle.reports.specs.Texts.{kind_name, procedure_of, word_in}
use Rattle.reports.specs.declared.cells.Cells.{Cells}

-- so many blanks
abbrev pub blanks : ℕ → List ℕ
blanks n = replicate n 32

-- a text flush right in a column of so many characters; the text alone where it is longer
abbrev pub right : ℕ → List ℕ → List ℕ
right width text = blanks (width - length text) ++ text

-- the same, flush left
abbrev pub left : ℕ → List ℕ → List ℕ
left width text = text ++ blanks (width - length text)

-- a number; a dash where a record has none
abbrev pub cell : Option ℕ → List ℕ
cell (Some n) = decimal n
cell None = codes "-"

-- a mask, in hexadecimal
abbrev pub mask_cell : Option ℕ → List ℕ
mask_cell (Some n) = hexadecimal n
mask_cell None = codes "-"

-- a procedure and its word: "1 charge  "
abbrev pub procedure_cell : BookName → Record → List ℕ
procedure_cell book x =
    cell (procedure_of x) ++ (codes " " ++ left 8 (unwrap_or (word_in book x) []))

-- no number in any column
abbrev pub nothing_filled : Cells
nothing_filled = record {
  row = None;
  first = None;
  second = None;
  role = None;
  a = None;
  b = None;
  amount = None;
  mask = None;
}

-- the numbers of a record, each in its column
abbrev pub cells_of : Record → Cells
cells_of (entry.Posting p) =
    record nothing_filled {
      first = Some p.enterer;
      second = Some p.countersigner;
      a = Some p.a;
      b = Some p.b;
      amount = Some p.amount;
    }
cells_of (entry.Certification c) =
    record nothing_filled {
      row = Some c.row;
      first = Some c.user;
      role = Some c.role;
      mask = Some c.mask;
    }
cells_of (entry.Strike w) = record nothing_filled { row = Some w }

-- columns, each behind two blanks
abbrev pub in_columns : List (List ℕ) → List ℕ
in_columns texts = flat_map (λ text. codes "  " ++ text) texts

-- the row of a record, with its number
abbrev pub record_row : BookName → ℕ → Record → List ℕ
record_row book number x =
    let cells = cells_of x in
    in_columns (
    right 6 (decimal number)
    ∷ (left 13 (kind_name x)
    ∷ (right 3 (cell cells.row)
    ∷ (right 5 (cell cells.first)
    ∷ (right 6 (cell cells.second)
    ∷ (procedure_cell book x
    ∷ (right 4 (cell cells.role)
    ∷ (right 2 (cell cells.a)
    ∷ (right 2 (cell cells.b)
    ∷ (right 10 (cell cells.amount)
    ∷ (mask_cell cells.mask
    ∷ [])))))))))))

-- a line for each record, numbered on from a number
abbrev pub rows_from : BookName → ℕ → List Record → List ℕ
rows_from book number [] = []
rows_from book number (x ∷ xs) =
    codes "\n" ++ (record_row book number x ++ rows_from book (suc number) xs)

-- the names of the columns
abbrev pub column_names : List ℕ
column_names =
    codes
    "  number  kind           row  first  second  procedure   role   a   b           n  mask"

-- the title, the names of the columns, and the records numbered from 1
abbrev pub table_text : BookName → List Record → List ℕ
table_text book xs = codes "audit\n" ++ (column_names ++ rows_from book 1 xs)
