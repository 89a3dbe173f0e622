use Rattle.std.proofs.Common.{arith}
use Rattle.std.proofs.lemmas.Grind.{common_steps}
use Rattle.trial.specs.Laws.{length_blocks}
use Rattle.trial.proofs.trial_drive.TrialDriveDrive.read.Goals as goal

pub returns-in_err-check-clause-reads : goal.returns-in_err-check-clause-reads
returns-in_err-check-clause-reads c = grind (arith, common_steps, length_blocks)

pub returns-clause-reads : goal.returns-clause-reads
returns-clause-reads c = grind (arith, common_steps, length_blocks)
