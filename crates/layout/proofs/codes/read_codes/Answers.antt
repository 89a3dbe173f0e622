use Rattle.std.proofs.Common.{◌*◌, rules, tests}
use Rattle.lists.specs.Arrays.{made_by}
use Rattle.std.specs.Int.{w64}
use Rattle.encoding.specs.Numbers.{number_at}
use Rattle.layout.proofs.codes.read_codes.Goals as goal

pub returns : goal.returns
returns c =
    record { value = made_by _ _ (λ i. number_at w64 c.args.block.now (8 * i)) c.from_fn.result 8 0 (λ k y q l called. search (rules, tests)) c.from_fn.ensures.items }
