-- The stock book: for each shelf the reels held and the most that it takes. Item 0 holds the sums
-- of items 1 to 63.
use Rattle.std.specs.Prelude.{ℕ, ◌+◌, ◌-◌, ◌*◌, ◌/◌, ◌%◌, ◌^◌, Bool, true, not, ◌&&◌, List, [], ◌∷◌, length, drop, Ok, Err, codes, sum_by, Result, ◌==◌, nat_le, nat_lt, slice_index, if◌then◌else◌}
use Rattle.std.specs.List.{list_all}
use Rattle.refusals.specs.declared.places.StepPlace.{StepPlace}
use Rattle.refusals.specs.declared.places.StepPlace.TheVariants.{Items, Amount, Values}
use Rattle.books.specs.declared.draft.Draft.{Draft}
use Rattle.books.specs.Meaning.{Meaning, amount_ok}
use Rattle.stock.specs.Procedures.{procedure_number, is_procedure}
use Rattle.stock.specs.declared.procedure.Procedure.TheVariants.{Build, Take, Give}

-- the reels held: the low 32 bits of a code
abbrev pub held : ℕ → ℕ
held c = c % 2 ^ 32

-- the most that may be held: the high 32 bits
abbrev pub most : ℕ → ℕ
most c = c / 2 ^ 32

-- the code of a pair
abbrev pub reels_code : ℕ → ℕ → ℕ
reels_code h m = h + m * 2 ^ 32

-- held ≤ most ≤ 10,000
abbrev pub shelf_ok : ℕ → ℕ → Bool
shelf_ok h m = nat_le h m && nat_le m 10000

-- the shelf of a code is so
abbrev pub in_order : ℕ → Bool
in_order c = shelf_ok (held c) (most c)

-- 64 codes; each of items 1 to 63 holds no more than its most, which is at most 10,000; item 0 has
-- the two sums
abbrev pub stock_valid : List ℕ → Bool
stock_valid cs =
    (length cs == 64)
    && (list_all in_order (drop 1 cs)
    && (held (slice_index cs 0) == sum_by held (drop 1 cs)
    && most (slice_index cs 0) == sum_by most (drop 1 cs)))

-- every procedure takes a shelf and item 0
abbrev pub stock_takes : Draft → Bool
stock_takes d = is_procedure d.procedure && ((nat_le 1 d.a && nat_le d.a 63) && d.b == 0)

-- build adds to the most, take to the held, give takes from the held
abbrev pub held_after : ℕ → ℕ → ℕ → ℕ
held_after p h n =
    if p == procedure_number Take then h + n
    else if p == procedure_number Give then h - n
    else h

abbrev pub most_after : ℕ → ℕ → ℕ → ℕ
most_after p m n = if p == procedure_number Build then m + n else m

-- no half leaves 0 to 4,294,967,295
abbrev pub halves_stay : ℕ → ℕ → ℕ → ℕ → Bool
halves_stay p h m n =
    (if p == procedure_number Give then nat_le n h else true)
    && (nat_lt (held_after p h n) (2 ^ 32) && nat_lt (most_after p m n) (2 ^ 32))

-- a code keeps its halves
abbrev pub code_stays : Draft → ℕ → Bool
code_stays d c = halves_stay d.procedure (held c) (most c) d.amount

-- the code that a procedure leaves
abbrev pub code_after : Draft → ℕ → ℕ
code_after d c =
    reels_code (held_after d.procedure (held c) d.amount) (most_after d.procedure (most c) d.amount)

-- a shelf stays in order
abbrev pub shelf_stays : Draft → ℕ → Bool
shelf_stays d c =
    shelf_ok (held_after d.procedure (held c) d.amount) (most_after d.procedure (most c) d.amount)

-- both codes keep their halves, and shelf a stays in order
abbrev pub reels_stay : Draft → ℕ × ℕ → Bool
reels_stay d before = (code_stays d before.0 && code_stays d before.1) && shelf_stays d before.0

-- the same is done to a and to the sums in item 0
abbrev pub stock_step : Draft → ℕ × ℕ → Result (ℕ × ℕ) StepPlace
stock_step d before =
    if not (stock_takes d) then Err Items
    else if not (amount_ok 10000 d.amount) then Err Amount
    else if not (reels_stay d before) then Err Values
    else Ok (code_after d before.0, code_after d before.1)

abbrev pub stock : Meaning
stock = record {
  kind = 2;
  ceiling = 10000;
  words = codes "build" ∷ (codes "take" ∷ (codes "give" ∷ []));
  valid = stock_valid;
  step = stock_step;
}
