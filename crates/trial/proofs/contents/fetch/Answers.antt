use Rattle.std.proofs.Common.{arith}
use Rattle.std.proofs.lemmas.Grind.{common_steps}
use Rattle.trial.proofs.BlocksOfBytes.{block_at}
use Rattle.trial.proofs.contents.fetch.Goals as goal

pub returns : goal.returns
returns c = grind (arith, common_steps, block_at)
