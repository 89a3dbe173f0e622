use Rattle.std.proofs.Common.{ℕ, Ok, Err, Result}
use Rattle.refusals.specs.declared.refusal.Refusal.{Refusal}
use Rattle.journals.specs.JournalState.{size, home_of}
use Rattle.applying.specs.BookState.{BookState, state_of}
use Rattle.applying.specs.Rows.{struck}
use Rattle.image.specs.Home.{state_with}
use Rattle.image.specs.Layout.{room}
use Rattle.monitor.proofs.TestsPassed.{gives_read, exit_is}
use Rattle.monitor.proofs.applied.struck.Goals as goal

pub returns-in_err-strike-clause-gives : goal.returns-in_err-strike-clause-gives
returns-in_err-strike-clause-gives g c =
    let state = c.state-state.result in
    let way : ℕ → BookState → Result BookState Refusal = λ k s. struck k s c.args.row in
    let r = c.args.reader.now in
    let e = c.in_err-strike.field-0.0 in
    let is = exit_is c.from_residual.result e c.from_residual.ensures.1 in
    rw is
    (gives_read way state.room (room (size r)) (state_of state)
    (state_with (home_of r) c.args.head.count) (Err e)
    c.state-state.ensures.room c.state-state.ensures.value
    c.in_err-strike.ensures.leaves.applies.0)

pub returns-clause-gives : goal.returns-clause-gives
returns-clause-gives g c =
    let state = c.state-state.result in
    let way : ℕ → BookState → Result BookState Refusal = λ k s. struck k s c.args.row in
    let r = c.args.reader.now in
    gives_read way state.room (room (size r)) (state_of state)
    (state_with (home_of r) c.args.head.count) (Ok (state_of c.strike.new.self))
    c.state-state.ensures.room c.state-state.ensures.value
    c.in_ok-strike.ensures.leaves.applies
