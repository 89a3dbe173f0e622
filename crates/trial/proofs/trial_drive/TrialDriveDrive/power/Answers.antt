use Rattle.std.proofs.Common.{ap}
use Rattle.trial.specs.TrialState.{TrialState}
use Rattle.trial.proofs.SettledBlocks.{bytes_powered}
use Rattle.trial.proofs.trial_drive.TrialDriveDrive.power.Goals as goal

pub returns-clause-powers : goal.returns-clause-powers
returns-clause-powers c =
    let is = c.turn_on.ensures.state in
    bytes_powered _ _ _ _ (ap (λ (s : TrialState). s.on) is) (ap (λ (s : TrialState). s.bytes) is)
