use Rattle.std.proofs.Common.{◌%◌, ◌^◌, ◌<◌, ◌≤◌, eqb, sym, ap, ◌∙◌, arith, pow_mono}
use native.Mathlib.Nat.{div-eq_of_lt}
use Rattle.std.proofs.lemmas.Bool.{le-ltb, both_ways}
use Rattle.rights.proofs.row.has_bit.Goals as goal

-- a mask of 64 bits has no bit from 64 on
pub returns-else-item-lt64 : goal.returns-else-item-lt64
returns-else-item-lt64 c =
    let wide : 2 ^ 64 ≤ 2 ^ c.args.item = pow_mono c.if-item-lt64.false in
    let small : c.args.mask < 2 ^ c.args.item = omega (arith, c.ranges.mask.fits) in
    let no-bit = le-ltb c.args.item 64 c.if-item-lt64.false in
    record { value = no-bit ∙ sym (ap (λ z. eqb (z % 2) 1) (div-eq_of_lt small)); within = λ t. absurd (both_ways _ no-bit t) }
