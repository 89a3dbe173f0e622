use Rattle.std.proofs.Common.{rules}
use Rattle.trial.proofs.SettledBlocks.{bytes_settled, bytes_kept}
use Rattle.trial.proofs.trial_drive.TrialDriveDrive.flush.Goals as goal

pub returns-in-Done-clause-flushes : goal.returns-in-Done-clause-flushes
returns-in-Done-clause-flushes c = search (rules, bytes_settled)

pub returns-in-Lost-clause-flushes : goal.returns-in-Lost-clause-flushes
returns-in-Lost-clause-flushes c = search (rules, bytes_kept)
