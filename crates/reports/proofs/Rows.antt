-- One row more behind the rows that stand.
use Rattle.std.proofs.Common.{◌≡◌, ℕ, suc, ◌+◌, ◌<◌, List, [], ◌∷◌, ◌++◌, length, take, get_or, codes, sym, ap, ◌∙◌, arith, append-nil, append_assoc}
use Rattle.std.proofs.lemmas.List.{take_more, length-take-le}
use Rattle.records.specs.declared.record.Record.{Record}
use Rattle.registry.specs.declared.book_name.BookName.{BookName}
use Rattle.reports.specs.Table.{record_row, rows_from}

module _ (book : BookName) where
  rows_push : (n : ℕ) (xs : List Record) (x : Record) → rows_from book n (xs ++ x ∷ []) ≡ rows_from book n xs ++ (codes "\n" ++ record_row book (n + length xs) x)
  rows_push n [] x = ap (λ t. codes "\n" ++ t) (append-nil (record_row book n x)) ∙ ap (λ k. codes "\n" ++ record_row book k x) {x = n} {y = n + 0} (omega arith)
  rows_push n (y ∷ ys) x =
      let next = codes "\n" ++ record_row book (suc n + length ys) x in
      ap (λ t. codes "\n" ++ (record_row book n y ++ t)) (rows_push (suc n) ys x)
      ∙ ap (λ t. codes "\n" ++ t) (sym (append_assoc (record_row book n y) (rows_from book (suc n) ys) next))
      ∙ ap (λ k. rows_from book n (y ∷ ys) ++ (codes "\n" ++ record_row book k x)) {x = suc n + length ys} {y = n + suc (length ys)} (omega arith)

  -- the record at i stands in row i + 1
  pub rows_more :
      (xs : List Record) (i : ℕ) (d : Record) → i < length xs
      → rows_from book 1 (take i xs) ++ (codes "\n" ++ record_row book (i + 1) (get_or xs i d)) ≡ rows_from book 1 (take (i + 1) xs)
  rows_more xs i d within =
      let x = get_or xs i d in
      let at : 1 + length (take i xs) ≡ i + 1 = omega (arith, length-take-le i xs) in
      ap (λ k. rows_from book 1 (take i xs) ++ (codes "\n" ++ record_row book k x)) (sym at)
      ∙ sym (rows_push 1 (take i xs) x)
      ∙ ap (rows_from book 1) (sym (take_more xs i d within))
