-- The ledger: signed balances in pence. Items 0 to 7 are the house's own accounts, 8 to 63 the
-- depositors'.
use Rattle.std.specs.Prelude.{ℕ, Bool, false, not, ◌&&◌, ◌||◌, List, [], ◌∷◌, map, length, ℤ, pos, negsuc, ◌+ℤ◌, neg_ℤ, Some, None, Ok, Err, codes, fold, Option, Result, ◌==◌, int_le, nat_le, nat_lt, if◌then◌else◌}
use Rattle.std.specs.List.{list_all}
use Rattle.std.specs.Int.{w64}
use Rattle.std.proofs.Common.{to_z, of_z}
use Rattle.refusals.specs.declared.places.StepPlace.{StepPlace}
use Rattle.refusals.specs.declared.places.StepPlace.TheVariants.{Items, Amount, Values}
use Rattle.books.specs.declared.draft.Draft.{Draft}
use Rattle.books.specs.Meaning.{Meaning, amount_ok}
use Rattle.ledger.specs.Procedures.{procedure_number}
use Rattle.ledger.specs.declared.procedure.Procedure.TheVariants.{Charge, Receipt, Shift}

-- the balance that a code stands for: two's complement at 64 bits
abbrev pub balance : ℕ → ℤ
balance c = to_z w64 c

-- the code of a balance
abbrev pub balance_code : ℤ → ℕ
balance_code z = of_z w64 z

-- within ±1,000,000,000,000 pence
abbrev pub within : ℤ → Bool
within z = int_le (negsuc 999999999999) z && int_le z (pos 1000000000000)

abbrev pub is_zero : ℤ → Bool
is_zero z = int_le (pos 0) z && int_le z (pos 0)

abbrev pub total : List ℤ → ℤ
total zs = fold ◌+ℤ◌ (pos 0) zs

-- 64 balances, each within its bounds, whose sum is zero
abbrev pub ledger_valid : List ℕ → Bool
ledger_valid cs =
    length cs == 64 && (list_all within (map balance cs) && is_zero (total (map balance cs)))

-- an account of the house's own
abbrev pub own : ℕ → Bool
own i = nat_lt i 8

-- a depositor's account
abbrev pub depositor : ℕ → Bool
depositor i = nat_le 8 i && nat_lt i 64

-- two accounts of the house's own, or two depositors'
abbrev pub of_one_side : ℕ → ℕ → Bool
of_one_side i j = (own i && own j) || (depositor i && depositor j)

-- charge: a is a depositor's, b the house's; receipt: the reverse; shift: two items of one side
abbrev pub ledger_takes : Draft → Bool
ledger_takes d =
    if d.procedure == procedure_number Charge then depositor d.a && own d.b
    else if d.procedure == procedure_number Receipt then own d.a && depositor d.b
    else if d.procedure == procedure_number Shift then not (d.a == d.b) && of_one_side d.a d.b
    else false

-- a balance lies within its bounds before and after a change
abbrev pub balance_stays : ℤ → ℤ → Bool
balance_stays z change = within z && within (z +ℤ change)

-- the code after a change; none where the balance lies outside before or after
abbrev pub code_changed : ℕ → ℤ → Option ℕ
code_changed c change =
    if balance_stays (balance c) change then Some (balance_code (balance c +ℤ change)) else None

-- both new codes, or place 3
abbrev pub both : Option ℕ → Option ℕ → Result (ℕ × ℕ) StepPlace
both None y = Err Values
both (Some x) None = Err Values
both (Some x) (Some y) = Ok (x, y)

-- the amount is added to a and taken from b
abbrev pub ledger_step : Draft → ℕ × ℕ → Result (ℕ × ℕ) StepPlace
ledger_step d before =
    if not (ledger_takes d) then Err Items
    else if not (amount_ok 1000000000 d.amount) then Err Amount
    else both (code_changed before.0 (pos d.amount)) (code_changed before.1 (neg_ℤ (pos d.amount)))

abbrev pub ledger : Meaning
ledger = record {
  kind = 1;
  ceiling = 1000000000;
  words = codes "charge" ∷ (codes "receipt" ∷ (codes "shift" ∷ []));
  valid = ledger_valid;
  step = ledger_step;
}
