use Rattle.std.proofs.Common.{arith}
use Rattle.std.proofs.lemmas.Grind.{common_steps}
use Rattle.lexer.proofs.DigitValues.{value_drop_least}
use Rattle.lexer.proofs.numerals.number_in.Goals as goal

-- what no longer fits does not fit with more digits behind it
pub returns-in_err-checked_mul : goal.returns-in_err-checked_mul
returns-in_err-checked_mul c =
    let least = value_drop_least c.args.base c.loop-byte.value c.args.digits.now c.loop-byte.byte-index (omega arith) (omega arith) in
    grind (arith, common_steps)

pub returns-in_err-value : goal.returns-in_err-value
returns-in_err-value c =
    let least = value_drop_least c.args.base c.loop-byte.value c.args.digits.now c.loop-byte.byte-index (omega arith) (omega arith) in
    grind (arith, common_steps)
