use Rattle.applying.specs.BookState.{state_of}
use Rattle.monitor.proofs.RecordApplied.{strike_made, strike_refused}
use Rattle.monitor.proofs.TestsPassed.{exit_is}
use Rattle.monitor.proofs.monitor.Monitor.strike.Goals as goal

-- it was refused
pub returns-in_err-state : goal.returns-in_err-state
returns-in_err-state g c =
    let s = c.args.self.now in
    let e = c.in_err-state.field-0.0 in
    let r = c.from_residual-in_err-state.result in
    let is = exit_is r e c.from_residual-in_err-state.ensures.1 in
    record {
      strikes =
          strike_refused s c.in_ok-reader.reader c.in_ok-reader.ensures.open c.head-head.result
          c.head-head.ensures.value r s c.args.word.now c.args.row c.in_ok-identify.ensures.value
          e c.in_err-state.ensures.gives is;
    }

-- it was applied
pub returns : goal.returns
returns g c =
    record {
      strikes =
          strike_made c.args.self.now c.in_ok-reader.reader c.in_ok-reader.ensures.open
          c.head-head.result c.head-head.ensures.value c.make_update.result c.make_update.new.self
          c.args.word.now c.args.row c.in_ok-identify.ensures.value (state_of c.in_ok-state.state)
          c.in_ok-state.ensures.gives c.make_update.ensures.makes;
    }
