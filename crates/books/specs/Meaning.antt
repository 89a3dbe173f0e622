-- What a book means to the monitor that keeps it, and the laws that every book obeys.
use Rattle.std.specs.Prelude.{◌≡◌, ℕ, ◌^◌, ◌<◌, ◌≤◌, Bool, true, false, ◌&&◌, ◌⊎◌, ◌↔◌, List, length, Ok, Err, Result, ◌≢◌, nat_le, slice_index, slice_set}
use Rattle.refusals.specs.declared.places.StepPlace.{StepPlace}
use Rattle.refusals.specs.declared.places.StepPlace.TheVariants.{Items, Amount}
use Rattle.books.specs.declared.draft.Draft.{Draft}

-- kind: the book's number; ceiling: the largest amount of one note; words: the names of procedures
-- 1, 2 and so on, as bytes; valid: the lists of codes that the book allows; step: what a draft's
-- procedure on items a and b with its amount gives from their two codes, or the place where it
-- refuses
pub record Meaning : Type 0 where
  pub kind : ℕ
  pub ceiling : ℕ
  pub words : List (List ℕ)
  pub valid : List ℕ → Bool
  pub step : Draft → ℕ × ℕ → Result (ℕ × ℕ) StepPlace

-- an amount that one note may carry
abbrev pub amount_ok : ℕ → ℕ → Bool
amount_ok ceiling n = nat_le 1 n && nat_le n ceiling

-- the book has a word for the procedure
abbrev pub has_procedure : Meaning → ℕ → Bool
has_procedure m p = nat_le 1 p && nat_le p (length m.words)

-- a kind number from 1 to 255
abbrev pub KindInRange : Meaning → Type 0
KindInRange m = (1 ≤ m.kind) × (m.kind ≤ 255)

-- a ceiling of at most 1,000,000,000
abbrev pub CeilingInRange : Meaning → Type 0
CeilingInRange m = m.ceiling ≤ 1000000000

-- the codes of items a and b
abbrev pub codes_at : List ℕ → ℕ → ℕ → ℕ × ℕ
codes_at codes a b = (slice_index codes a, slice_index codes b)

-- a valid list has a code for each of the 64 items
abbrev pub ValidHas64Codes : Meaning → Type 0
ValidHas64Codes m = (codes : List ℕ) → m.valid codes ≡ true → length codes ≡ 64

-- a valid list stays valid when the codes of two different items are replaced by what the step
-- gives
abbrev pub StepKeepsValid : Meaning → Type 0
StepKeepsValid m =
    (codes : List ℕ) (d : Draft) (x y : ℕ) →
    d.a < 64 → d.b < 64 → (d.a ≢ d.b) →
    m.valid codes ≡ true →
    m.step d (codes_at codes d.a d.b) ≡ Ok (x, y) →
    m.valid (slice_set (slice_set codes d.a x) d.b y) ≡ true

-- the step's tests in their order. Place 1 is a procedure without a word or items that it does not
-- take, whatever the codes and the amount. Place 2 is an amount that the procedure does not take,
-- whatever the codes and the items, but that place 1 comes first; no procedure takes an amount
-- outside 1 to the ceiling
pub record StepTests (m : Meaning) : Type 0 where
  pub needs_word : (d : Draft) (codes : ℕ × ℕ) → has_procedure m d.procedure ≡ false → m.step d codes ≡ Err Items
  pub items_alone :
      (d : Draft) (codes codes' : ℕ × ℕ) (n : ℕ) →
      m.step d codes ≡ Err Items → m.step (record d { amount = n }) codes' ≡ Err Items
  pub needs_amount :
      (d : Draft) (codes : ℕ × ℕ) → amount_ok m.ceiling d.amount ≡ false →
      (m.step d codes ≡ Err Items) ⊎ (m.step d codes ≡ Err Amount)
  pub amount_alone :
      (d : Draft) (codes codes' : ℕ × ℕ) (a b : ℕ) → m.step d codes ≡ Err Amount →
      (m.step (record d { a = a; b = b }) codes' ≡ Err Items)
      ⊎ (m.step (record d { a = a; b = b }) codes' ≡ Err Amount)

-- place 2 is exactly an amount outside 1 to the ceiling, where the step takes the items. A book
-- need not be so: its procedures may have bounds of their own
abbrev pub AmountTestIsCeiling : Meaning → Type 0
AmountTestIsCeiling m =
    (d : Draft) (codes : ℕ × ℕ) →
    (m.step d codes ≡ Err Amount)
    ↔ ((m.step d codes ≢ Err Items) × (amount_ok m.ceiling d.amount ≡ false))

-- from codes of 64 bits the step gives codes of 64 bits
abbrev pub StepGivesCodes : Meaning → Type 0
StepGivesCodes m =
    (d : Draft) (codes : ℕ × ℕ) (x y : ℕ) →
    codes.0 < 2 ^ 64 → codes.1 < 2 ^ 64 →
    m.step d codes ≡ Ok (x, y) →
    (x < 2 ^ 64) × (y < 2 ^ 64)
