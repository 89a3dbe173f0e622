use Rattle.image.specs.Laws.Inspecting.{accepted}
use Rattle.monitor.proofs.LeavesSteady.{accepted_steady}
use Rattle.monitor.proofs.monitor.Monitor.attach.Goals as goal

-- a lawful image was accepted
pub invariant_of-self : goal.invariant_of-self
invariant_of-self g c = λ _. accepted_steady _ _ _ _ (accepted _ _ _ _ c.in-Ok.ensures.inspects)
