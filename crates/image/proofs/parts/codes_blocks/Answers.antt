use Rattle.std.proofs.Common.{◌*◌, [], take, drop, arith}
use Rattle.std.proofs.lemmas.List.FromFn.{fill_by_all}
use Rattle.layout.specs.Codes.{codes_form}
use Rattle.image.proofs.parts.codes_blocks.Goals as goal

-- all eight
pub returns : goal.returns
returns c =
    record {
      value = fill_by_all (λ k. codes_form (take 8 (drop (8 * k) c.args.codes.now))) c.loop-i.made 8 [] c.loop-i.invariant.0 (λ k h. c.loop-i.invariant.1 k (omega arith));
    }
