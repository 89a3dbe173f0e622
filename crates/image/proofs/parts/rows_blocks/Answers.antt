use Rattle.std.proofs.Common.{◌*◌, [], take, drop, arith}
use Rattle.std.proofs.lemmas.List.FromFn.{fill_by_all}
use Rattle.layout.specs.Rows.{rows_form}
use Rattle.image.proofs.parts.rows_blocks.Goals as goal

-- all eight
pub returns : goal.returns
returns c =
    record {
      value = fill_by_all (λ k. rows_form (take 4 (drop (4 * k) c.args.rows.now))) c.loop-i.made 8 [] c.loop-i.invariant.0 (λ k h. c.loop-i.invariant.1 k (omega arith));
    }
