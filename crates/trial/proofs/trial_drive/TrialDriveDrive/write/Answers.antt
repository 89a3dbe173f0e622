use Rattle.std.proofs.Common.{◌≡◌, ap, ◌∙◌, arith, rules}
use Rattle.std.proofs.lemmas.Grind.{common_steps}
use Rattle.trial.specs.Bytes.{with_block}
use Rattle.trial.specs.TrialState.{TrialState}
use Rattle.trial.specs.Laws.{length_blocks}
use Rattle.trial.proofs.WritesKeepMeaning.{writes_done, writes_cut}
use Rattle.trial.proofs.trial_drive.TrialDriveDrive.write.Goals as goal

pub returns-in_err-check-clause-writes : goal.returns-in_err-check-clause-writes
returns-in_err-check-clause-writes c = grind (arith, common_steps, length_blocks)

-- The turn leaves the bytes and power as they were.
pub returns-in-Done-clause-writes : goal.returns-in-Done-clause-writes
returns-in-Done-clause-writes c =
    let before : _ ≡ c.args.self.now.bytes = ap (λ (s : TrialState). s.bytes) (c.self.view_is ∙ c.take_turn.ensures.state) in
    let on = ap (λ (s : TrialState). s.on) (c.self.view_is ∙ c.take_turn.ensures.state) in
    writes_done c.args.self.now _ _ _ _ c.in_ok-check.ensures.value on
    (c.store.ensures.after ∙ ap (λ bs. with_block bs c.args.block c.args.content.now) before)

-- It landed or not.
pub returns-after-lands-clause-writes : goal.returns-after-lands-clause-writes
returns-after-lands-clause-writes c =
    let before : _ ≡ c.args.self.now.bytes = ap (λ (s : TrialState). s.bytes) (c.self.view_is ∙ c.take_turn.ensures.state) in
    writes_cut c.args.self.now c.in-Lost.lands _ _ _ c.in_ok-check.ensures.value (rw (← before) (search rules))
