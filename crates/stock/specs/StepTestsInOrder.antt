-- The stock book's step tests in order, and gives codes of 64 bits.
use Rattle.std.specs.Prelude.{◌≡◌, ℕ, ◌+◌, ◌*◌, ◌^◌, ◌<◌, Bool, true, false, not, ◌&&◌, Ok, Err, ◌==◌, nat_le, nat_lt, refl, if◌then◌else◌}
use Rattle.std.proofs.Common.{ap, subst, arith}
use Rattle.std.proofs.lemmas.Bool.{and_parts, ltb-true}
use Rattle.std.proofs.lemmas.Bool.Decides.{nat_tests}
use Rattle.refusals.specs.declared.places.StepPlace.TheVariants.{Values}
use Rattle.lists.specs.Answers.{passed, same_ok}
use Rattle.books.specs.declared.draft.Draft.{Draft}
use Rattle.books.specs.Meaning.{StepTests, AmountTestIsCeiling, StepGivesCodes, amount_ok, has_procedure}
use Rattle.books.specs.TestsInOrder.{ByValues, TestsInOrder, tests_of_step, amount_test_of_step}
use Rattle.stock.specs.Procedures.{procedure_number}
use Rattle.stock.specs.declared.procedure.Procedure.TheVariants.{Give}
use Rattle.stock.specs.Stock.{stock, stock_takes, held, most, held_after, most_after, code_stays, shelf_stays, reels_stay, code_after}

-- two codes, or place 3
by_values : (t : Bool) (xy : ℕ × ℕ) → ByValues (if not t then Err Values else Ok xy)
by_values true xy = tt
by_values false xy = refl

-- a procedure without a word takes no items
wordless : (d : Draft) → has_procedure stock d.procedure ≡ false → stock_takes d ≡ false
wordless d h = grind (arith, nat_tests)

stock_in_order : TestsInOrder stock
stock_in_order =
    record {
      takes = stock_takes;
      given = λ d codes. if not (reels_stay d codes) then Err Values else Ok (code_after d codes.0, code_after d codes.1);
      step = λ d codes. refl;
      by_values = λ d codes. by_values _ _;
      any_amount = λ d n. refl;
      wordless = wordless;
    }

pub stock_tests : StepTests stock
stock_tests = tests_of_step stock stock_in_order

pub stock_amounts : AmountTestIsCeiling stock
stock_amounts = amount_test_of_step stock stock_in_order

-- two halves of 32 bits make a code of 64
halves : (h m : ℕ) → h < 2 ^ 32 → m < 2 ^ 32 → h + m * 2 ^ 32 < 2 ^ 64
halves h m p q = omega arith

-- a code whose halves stay is of 64 bits
code_fits : (d : Draft) (c : ℕ) → code_stays d c ≡ true → code_after d c < 2 ^ 64
code_fits d c h =
    let left : ℕ = held_after d.procedure (held c) d.amount in
    let right : ℕ = most_after d.procedure (most c) d.amount in
    let s = (and_parts (if d.procedure == procedure_number Give then nat_le d.amount (held c) else true) (nat_lt left (2 ^ 32) && nat_lt right (2 ^ 32)) h).1 in
    let t = and_parts (nat_lt left (2 ^ 32)) (nat_lt right (2 ^ 32)) s in
    halves left right (ltb-true left (2 ^ 32) t.0) (ltb-true right (2 ^ 32) t.1)

pub stock_gives_codes : StepGivesCodes stock
stock_gives_codes d codes x y hx hy s =
    let s1 = (passed (stock_takes d) _ _ (x, y) s).1 in
    let s2 = (passed (amount_ok 10000 d.amount) _ _ (x, y) s1).1 in
    let s3 = passed (reels_stay d codes) _ _ (x, y) s2 in
    let both = (and_parts (code_stays d codes.0 && code_stays d codes.1) (shelf_stays d codes.0) s3.0).0 in
    let each = and_parts (code_stays d codes.0) (code_stays d codes.1) both in
    let same : ◌≡◌ {A = ℕ × ℕ} (code_after d codes.0, code_after d codes.1) (x, y) = same_ok _ _ s3.1 in (
      subst (λ (z : ℕ). z < 2 ^ 64) (ap (λ (z : ℕ × ℕ). z.0) same) (code_fits d codes.0 each.0),
      subst (λ (z : ℕ). z < 2 ^ 64) (ap (λ (z : ℕ × ℕ). z.1) same) (code_fits d codes.1 each.1),
    )
