use Rattle.std.proofs.Common.{◌+◌, ap, ◌∙◌}
use Rattle.journals.specs.Reported.{place_number}
use Rattle.layout.specs.declared.head.Head.{Head}
use Rattle.applying.specs.BookState.{state_of}
use Rattle.monitor.proofs.UpdateMade.{leaves_steady, acknowledged, lost}
use Rattle.monitor.proofs.monitor.Monitor.make_update.Goals as goal

pub invariant_of-self : goal.invariant_of-self
invariant_of-self g c =
    λ _. leaves_steady c.args.self.now c.self.inside.stage c.self.inside.journal c.self.view_is
    c.requires.open c.self.invariant c.args.head c.args.entry (state_of c.args.state.now)
    c.requires.room c.in-Some.update c.in-Some.ensures.value c.in-Some.ensures.ends
    c.change.new.self c.in-Ok.ensures.changes

pub returns-in-Ok : goal.returns-in-Ok
returns-in-Ok g c =
    let counted = ap (λ n. n + 1) (c.from.ensures ∙ ap (λ (z : Head). z.count) c.requires.head) in
    record {
      makes =
          acknowledged c.args.self.now c.self.inside.stage c.self.inside.journal c.self.view_is
          c.requires.open c.self.invariant c.args.head c.args.entry (state_of c.args.state.now)
          c.requires.room c.in-Some.update c.in-Some.ensures.value c.in-Some.ensures.ends
          c.change.new.self (c.from.result + 1) c.in-Ok.ensures.changes counted;
    }

-- power was lost at a place
pub returns-in-Err-Cut : goal.returns-in-Err-Cut
returns-in-Err-Cut g c =
    let place = c.in-Err-Cut.place in
    let at = c.at.ensures.names_place ∙ c.into.ensures ∙ ap place_number c.in-Err-Cut.place-is in
    record {
      makes =
          lost c.args.self.now c.self.inside.stage c.self.inside.journal c.self.view_is
          c.requires.open c.self.invariant c.args.head c.args.entry (state_of c.args.state.now)
          c.requires.room c.in-Some.update c.in-Some.ensures.value c.in-Some.ensures.ends
          c.change.new.self place c.at.result
          (rw c.in-Err-Cut.field-0-is at c.in-Err-Cut.ensures.changes) c.at.ensures.names_reason
          at;
    }
