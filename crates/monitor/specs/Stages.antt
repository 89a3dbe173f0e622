-- The stages of a monitor: shut until a format or an attach is accepted, open while it works, dark
-- once power was lost.
use Rattle.std.specs.Prelude.{Ok, Err, Result}
use Rattle.refusals.specs.declared.places.PowerPlace.TheVariants as at
use Rattle.refusals.specs.declared.reason.Reason.TheVariants as reason
use Rattle.refusals.specs.declared.refusal.Refusal.{Refusal}
use Rattle.refusals.specs.Refused.{refused, lost_at}
use Rattle.monitor.specs.declared.stage.Stage.{Stage}
use Rattle.monitor.specs.declared.stage.Stage.TheVariants.{Shut, Open, Dark}
use Rattle.monitor.specs.declared.stage.CallKind.{CallKind}
use Rattle.monitor.specs.declared.stage.CallKind.TheVariants.{Starting, Working}

-- before any other test: format and attach go on at every stage; every other call is refused with 6
-- when shut and with 7, place 0, when dark
abbrev pub admitted : Stage → CallKind → Result (Unit {0}) Refusal
admitted Shut Starting = Ok tt
admitted Open Starting = Ok tt
admitted Dark Starting = Ok tt
admitted Shut Working = refused reason.Shut 0
admitted Open Working = Ok tt
admitted Dark Working = Err (lost_at at.Dark)

-- a call that works with the books is admitted
abbrev pub may_work : Stage → Result (Unit {0}) Refusal
may_work st = admitted st Working
