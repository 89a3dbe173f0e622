use Rattle.std.proofs.Common.{rules}
use Rattle.trial.specs.Laws.{length_blocks}
use Rattle.trial.proofs.trial_drive.TrialDriveDrive.size.Goals as goal

-- The size is the number of whole blocks.
pub returns-clause-value : goal.returns-clause-value
returns-clause-value c = search (rules, length_blocks)
