-- Worked examples from the counter, as the rows of one table: what the definitions give, and what
-- they should give.
use Rattle.std.specs.Prelude.{◌≡◌, ℕ, List, [], ◌∷◌, replicate, ℤ, negsuc, Ok, Err, Result, slice_set}
use Rattle.std.specs.List.{AllByRecursion}
use Rattle.refusals.specs.declared.refusal.Refusal.{Refusal}
use Rattle.refusals.specs.declared.places.StepPlace.{StepPlace}
use Rattle.refusals.specs.Table.{reason_number}
use Rattle.books.specs.declared.draft.Draft.{Draft}
use Rattle.books.specs.Meaning.{Meaning, codes_at}
use Rattle.ledger.specs.Ledger.{ledger, balance}
use Rattle.stock.specs.Stock.{stock, reels_code}
use Rattle.notes.specs.Notes.{noted}
use Rattle.notes.specs.declared.note_numbers.NoteNumbers.{NoteNumbers}
use Rattle.applying.specs.Applied.{codes_given}

-- an answer as people see it: what was given, or the refusal's number and place
abbrev pub seen : {X : Type 0} → Result X Refusal → Result X (ℕ × ℕ)
seen (Ok x) = Ok x
seen (Err e) = Err (reason_number e.reason, e.place)

-- one example each
pub data Example : Type 0 where
  -- a draft that is made a note or refused
  making : Meaning → Draft → Result NoteNumbers (ℕ × ℕ) → Example
  -- a step on two codes, as a posting answers it
  stepping : Meaning → Draft → ℕ × ℕ → Result (ℕ × ℕ) (ℕ × ℕ) → Example
  -- the codes of a list after a step on it
  posting_on : Meaning → List ℕ → Draft → List ℕ → Example
  -- the balance of a code
  balancing : ℕ → ℤ → Example
  -- the code of a pair of reels
  coding : ℕ → ℕ → ℕ → Example

-- the list with two codes replaced by what a step gave; as it was where the step refused
abbrev pub codes_after : List ℕ → Draft → Result (ℕ × ℕ) StepPlace → List ℕ
codes_after cs d (Ok after) = slice_set (slice_set cs d.a after.0) d.b after.1
codes_after cs d (Err e) = cs

-- the definitions give the row's answer
abbrev pub RowHolds : Example → Type 0
RowHolds (making m d answer) = seen (noted m d) ≡ answer
RowHolds (stepping m d before answer) = seen (codes_given (m.step d before)) ≡ answer
RowHolds (posting_on m cs d after) = codes_after cs d (m.step d (codes_at cs d.a d.b)) ≡ after
RowHolds (balancing code pence) = balance code ≡ pence
RowHolds (coding h m code) = reels_code h m ≡ code

-- a draft of a procedure, items a and b, and an amount
abbrev pub typed : ℕ → ℕ → ℕ → ℕ → Draft
typed p a b n = record { procedure = p; a = a; b = b; amount = n }

-- a ledger note that was made
abbrev pub charged : ℕ → Result NoteNumbers (ℕ × ℕ)
charged n = Ok (record { kind = 1; procedure = 1; a = 8; b = 0; amount = n })

-- an empty ledger, and the same after a charge of 4500 on item 8
abbrev pub empty_ledger : List ℕ
empty_ledger = replicate 64 0

abbrev pub charged_ledger : List ℕ
charged_ledger = slice_set (slice_set empty_ledger 8 4500) 0 18446744073709547116

abbrev pub table : List Example
table =
    making ledger (typed 1 8 0 1000000000) (charged 1000000000)
    ∷ (making ledger (typed 1 8 0 1000000001) (Err (4, 1000000001))
    ∷ (making ledger (typed 1 8 8 4500) (Err (3, 8))
    ∷ (making ledger (typed 1 64 64 4500) (Err (2, 64))
    ∷ (stepping ledger (typed 1 8 0 1) (999999999999, 0) (Ok (1000000000000, 18446744073709551615))
    ∷ (stepping ledger (typed 1 8 0 2) (999999999999, 0) (Err (14, 3))
    ∷ (posting_on ledger empty_ledger (typed 1 8 0 4500) charged_ledger
    ∷ (balancing 18446744073709547116 (negsuc 4499)
    ∷ (coding 4 10 42949672964
    ∷ (stepping stock (typed 2 1 0 6) (42949672964, 42949672964) (Ok (42949672970, 42949672970))
    ∷ (stepping stock (typed 2 1 0 7) (42949672964, 42949672964) (Err (14, 3))
    ∷ []))))))))))

abbrev pub ExamplesStand : Type 0
ExamplesStand = AllByRecursion RowHolds table
