use Rattle.std.proofs.Common.{◌≡◌, ℕ, List, ap, ◌∙◌}
use Rattle.std.specs.List.{flat_map}
use Rattle.rights.specs.declared.row.Row.{Row}
use Rattle.layout.specs.Codes.{codes_of}
use Rattle.applying.specs.BookState.{BookState}
use Rattle.image.proofs.reader.Reader.state.Goals as goal

-- books of the same items, rows and count are the same
same_books :
    (a b : List ℕ) (p q : List Row) (n k : ℕ) → a ≡ b → p ≡ q → n ≡ k
    → ◌≡◌ {A = BookState} (record { items = a; rows = p; count = n }) (record { items = b; rows = q; count = k })
same_books a b p q n k d e f = cc

pub returns-clause-value : goal.returns-clause-value
returns-clause-value g c =
    same_books _ _ _ _ _ _ (c.codes_in.ensures.value ∙ ap (flat_map codes_of) c.part.ensures.value) c.rows.ensures.value c.from.ensures
