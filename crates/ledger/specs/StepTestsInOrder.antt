-- The ledger's step tests in order, and gives codes of 64 bits.
use Rattle.std.specs.Prelude.{◌≡◌, ℕ, ◌^◌, ◌<◌, Bool, true, false, ℤ, pos, negsuc, ◌+ℤ◌, neg_ℤ, Some, None, Option, refl, if◌then◌else◌}
use Rattle.std.proofs.Common.{subst, arith}
use Rattle.std.proofs.lemmas.Int.{ints}
use Rattle.std.proofs.lemmas.Bool.{and_parts}
use Rattle.std.proofs.lemmas.Bool.Decides.{nat_tests}
use Rattle.lists.specs.Answers.{passed}
use Rattle.books.specs.declared.draft.Draft.{Draft}
use Rattle.books.specs.Meaning.{StepTests, AmountTestIsCeiling, StepGivesCodes, amount_ok, has_procedure}
use Rattle.books.specs.TestsInOrder.{ByValues, TestsInOrder, tests_of_step, amount_test_of_step}
use Rattle.ledger.specs.Ledger.{ledger, ledger_takes, balance, balance_code, balance_stays, within, code_changed, both}
use Rattle.ledger.specs.StepKeepsValid.{both_given}
use Rattle.ledger.specs.Totals.{within_bounds}

-- two codes, or place 3
both_by_values : (o q : Option ℕ) → ByValues (both o q)
both_by_values None q = refl
both_by_values (Some v) None = refl
both_by_values (Some v) (Some w) = tt

-- a procedure without a word takes no items
wordless : (d : Draft) → has_procedure ledger d.procedure ≡ false → ledger_takes d ≡ false
wordless d h = grind (arith, nat_tests)

ledger_in_order : TestsInOrder ledger
ledger_in_order =
    record {
      takes = ledger_takes;
      given = λ d codes. both (code_changed codes.0 (pos d.amount)) (code_changed codes.1 (neg_ℤ (pos d.amount)));
      step = λ d codes. refl;
      by_values = λ d codes. both_by_values (code_changed codes.0 (pos d.amount)) (code_changed codes.1 (neg_ℤ (pos d.amount)));
      any_amount = λ d n. refl;
      wordless = wordless;
    }

pub ledger_tests : StepTests ledger
ledger_tests = tests_of_step ledger ledger_in_order

pub ledger_amounts : AmountTestIsCeiling ledger
ledger_amounts = amount_test_of_step ledger ledger_in_order

-- the code of a balance within its bounds is of 64 bits
code_fits : (z : ℤ) → within z ≡ true → balance_code z < 2 ^ 64
code_fits (pos k) h = omega (arith, ints, (within_bounds (pos k) h).1)
code_fits (negsuc k) h = omega arith

changed_fits : (t : Bool) (z d : ℤ) (x : ℕ) → balance_stays z d ≡ t → (if t then Some (balance_code (z +ℤ d)) else None) ≡ Some x → x < 2 ^ 64
changed_fits true z d x s e =
    let c : balance_code (z +ℤ d) ≡ x = cc in
    subst (λ (n : ℕ). n < 2 ^ 64) c (code_fits (z +ℤ d) (and_parts (within z) (within (z +ℤ d)) s).1)
changed_fits false z d x s e = absurd (let n : ◌≡◌ {A = ℕ} 0 1 = cc in omega arith)

pub ledger_gives_codes : StepGivesCodes ledger
ledger_gives_codes d codes x y hx hy s =
    let more : ℤ = pos d.amount in
    let less : ℤ = neg_ℤ (pos d.amount) in
    let s1 = (passed (ledger_takes d) _ _ (x, y) s).1 in
    let s2 = (passed (amount_ok 1000000000 d.amount) _ _ (x, y) s1).1 in
    let given = both_given (code_changed codes.0 more) (code_changed codes.1 less) x y s2 in (
      changed_fits (balance_stays (balance codes.0) more) (balance codes.0) more x refl given.0,
      changed_fits (balance_stays (balance codes.1) less) (balance codes.1) less y refl given.1,
    )
