use Rattle.std.proofs.Common.{◌≡◌, length, ap, refl, arith}
use Rattle.lexer.specs.Pieces.{newline, lines}
use Rattle.std.specs.Iterator.Adapters.{zip_first, zip_second}
use Rattle.script.proofs.RangeGoesOn.{pieces_few}
use Rattle.script.proofs.reading.read_script.Goals as goal

pub loop-number-init : goal.loop-number-init
loop-number-init c =
    let it = c.into_iter-number-iterator.result in
    let left : zip_second it ≡ lines c.args.text.now = cc in
    let first : (zip_first it).start ≡ 1 = cc in
    record {
      whole = rw (c.new-script.ensures.value, first, left) refl;
      numbers_last = omega (arith, pieces_few newline c.args.text.now, ap length left);
    }
