use Rattle.std.proofs.Common.{◌≡◌, ◌<◌, ◌==◌, ◌&&◌, ◌+ℤ◌, true, false, length, map, take, get_or, pos, to_z, of_z, w64, sym, ap, ◌∙◌, arith, take_all}
use Rattle.std.proofs.Math.Bool.{and-false}
use Rattle.std.proofs.lemmas.Bool.{eq-eqb, and_from}
use Rattle.std.proofs.lemmas.Int.{ints, to_z-of_z}
use Rattle.std.proofs.lemmas.List.{length-map, get_or-map}
use Rattle.std.proofs.lemmas.List.Folds.{list_all_at, list_all_more}
use Rattle.std.proofs.lemmas.List.Sums.{fold_more}
use Rattle.std.specs.List.{list_all}
use Rattle.ledger.specs.Ledger.{balance, within, is_zero, total}
use Rattle.ledger.specs.Totals.{within_bounds}
use Rattle.ledger.proofs.ZeroBits.{zero_bits}
use Rattle.ledger.proofs.ledger.LedgerBook.verify.Goals as goal

-- one balance more, which lies within its bounds
pub loop-code-preserved : goal.loop-code-preserved
loop-code-preserved c =
    let i = c.loop-code.code-index in
    let zs = map balance c.args.codes.now in
    let inside : i < length zs = simp length-map (omega arith) in
    let same = get_or-map balance c.args.codes.now i 0 (pos 0) (omega arith) in
    let is : to_z w64 (of_z w64 c.cast_signed-pence.result) ≡ get_or zs i (pos 0) = grind (arith, ints, to_z-of_z, same) in
    let passed : within (get_or zs i (pos 0)) ≡ true = ap within (sym is) ∙ sym c.if-not-is_within.ensures.value in
    let bounds = within_bounds (get_or zs i (pos 0)) passed in
    let more = fold_more ◌+ℤ◌ (pos 0) zs i (pos 0) inside in
    record {
      all_within = list_all_more within zs i (pos 0) inside ∙ and_from _ _ c.loop-code.invariant.all_within passed;
      summed = grind (arith, ints, to_z-of_z, more, is);
      low = omega (arith, ints, bounds.0, is);
      high = omega (arith, ints, bounds.1, is);
    }

-- a balance outside its bounds
pub returns-then-not-is_within : goal.returns-then-not-is_within
returns-then-not-is_within c =
    let i = c.loop-code.code-index in
    let codes = c.args.codes.now in
    let zs = map balance codes in
    let inside : i < length zs = simp length-map (omega arith) in
    let same = get_or-map balance codes i 0 (pos 0) (omega arith) in
    let is : to_z w64 (of_z w64 c.cast_signed-pence.result) ≡ get_or zs i (pos 0) = grind (arith, ints, to_z-of_z, same) in
    let failed : within (get_or zs i (pos 0)) ≡ false = ap within (sym is) ∙ sym c.if-not-is_within.ensures.value in
    let not-all = list_all_at within zs i (pos 0) inside failed in
    record { value = sym (ap (λ t. length codes == 64 && (t && is_zero (total zs))) not-all ∙ and-false (length codes == 64)) }

pub returns : goal.returns
returns c =
    let codes = c.args.codes.now in
    let zs = map balance codes in
    let full : take c.loop-code.code-index zs ≡ zs = take_all _ _ (simp length-map (omega arith)) in
    let len = eq-eqb (length codes) 64 (omega arith) in
    let all : list_all within zs ≡ true = ap (list_all within) (sym full) ∙ c.loop-code.invariant.all_within in
    let sum : balance c.loop-code.sum-bits ≡ total zs = c.loop-code.invariant.summed ∙ ap total full in
    let rest = ap (λ t. t && (list_all within zs && is_zero (total zs))) len ∙ ap (λ t. t && is_zero (total zs)) all in
    record { value = zero_bits c.loop-code.sum-bits c.loop-code.auto.sum.fits ∙ ap is_zero sum ∙ sym rest }
