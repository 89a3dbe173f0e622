use Rattle.std.proofs.Common.{◌*◌, rules, tests}
use Rattle.lists.specs.Arrays.{made_by}
use Rattle.rights.specs.Covers.{free}
use Rattle.layout.specs.Rows.{row_from}
use Rattle.layout.proofs.rows.read_rows.Goals as goal

pub returns : goal.returns
returns c =
    record { value = made_by _ _ (λ i. row_from c.args.block.now (16 * i)) c.from_fn.result 4 free (λ k y q l called. search (rules, tests)) c.from_fn.ensures.items }
