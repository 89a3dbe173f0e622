use Rattle.std.proofs.Common.{◌<◌, ap, ◌∙◌, subst, arith}
use Rattle.notes.specs.Notes.{IsNote}
use Rattle.journals.specs.JournalState.{JournalState, size, home_of}
use Rattle.records.specs.declared.record.Posting.{Posting as PostingRecord}
use Rattle.applying.specs.BookState.{state_of}
use Rattle.image.specs.Home.{head_on}
use Rattle.image.specs.Layout.{room}
use Rattle.monitor.specs.declared.slip_numbers.SlipNumbers.{SlipNumbers}
use Rattle.monitor.proofs.RecordApplied.{countersign_made, countersign_refused}
use Rattle.monitor.proofs.RecordApplied.{countersign_shut, countersign_foreign, countersign_unknown}
use Rattle.monitor.proofs.TestsPassed.{exit_is, passes}
use Rattle.monitor.proofs.monitor.Monitor.post.Goals as goal

-- a user is one of 16
pub overflow_cast-user-2 : goal.overflow_cast-user-2
overflow_cast-user-2 g c = record { fits = omega (arith, c.in_ok-identify.ensures.within passes) }

pub make_update-requires-clause-open : goal.make_update-requires-clause-open
make_update-requires-clause-open g c = c.in_ok-reader.ensures.open.stage

pub make_update-requires-clause-head : goal.make_update-requires-clause-head
make_update-requires-clause-head g c =
    c.head-head.ensures.value ∙ ap (λ (z : JournalState). head_on (home_of z))
    c.in_ok-reader.ensures.open.same

pub make_update-requires-clause-room : goal.make_update-requires-clause-room
make_update-requires-clause-room g c =
    subst (λ (z : JournalState). c.head-head.result.count < room (size z))
    c.in_ok-reader.ensures.open.same c.in_ok-state.ensures.had_room

-- the items are those of the slip's note
pub make_update-requires-clause-within : goal.make_update-requires-clause-within
make_update-requires-clause-within g c =
    let note : IsNote c.args.slip.now.entered.numbers =
    subst (λ (z : SlipNumbers). IsNote z.numbers) c.entered-entered.ensures.value
    c.entered-entered.ensures.is_note in (
      omega (arith, ap (λ (z : PostingRecord). z.a) c.posting.ensures.value, note.a_within),
      omega (arith, ap (λ (z : PostingRecord). z.b) c.posting.ensures.value, note.b_within),
    )

-- a test of the call refused it
pub returns-in_err-reader : goal.returns-in_err-reader
returns-in_err-reader g c =
    let a = c.args in
    let e = c.in_err-reader.field-0.0 in
    let r = c.from_residual.result in
    let is = exit_is r e c.from_residual.ensures.1 in
    record {
      countersigns =
          countersign_shut g.B.Book.meaning a.self.now a.user a.word.now a.slip.now.entered
          c.entered-entered.result c.entered-entered.ensures.value
          c.entered-entered.ensures.is_note e r is c.in_err-reader.ensures.refused;
    }

pub returns-in_err-check_slip : goal.returns-in_err-check_slip
returns-in_err-check_slip g c =
    let a = c.args in
    let e = c.in_err-check_slip.field-0.0 in
    let r = c.from_residual-in_err-check_slip.result in
    let is = exit_is r e c.from_residual-in_err-check_slip.ensures.1 in
    record {
      countersigns =
          countersign_foreign g.B.Book.meaning a.self.now a.user a.word.now a.slip.now.entered
          c.entered-entered.result c.entered-entered.ensures.value
          c.entered-entered.ensures.is_note e r is c.in_ok-reader.reader
          c.in_ok-reader.ensures.open c.head-head.result c.head-head.ensures.value
          c.in_err-check_slip.ensures.value;
    }

pub returns-in_err-identify : goal.returns-in_err-identify
returns-in_err-identify g c =
    let a = c.args in
    let e = c.in_err-identify.field-0.0 in
    let r = c.from_residual-in_err-identify.result in
    let is = exit_is r e c.from_residual-in_err-identify.ensures.1 in
    record {
      countersigns =
          countersign_unknown g.B.Book.meaning a.self.now a.user a.word.now a.slip.now.entered
          c.entered-entered.result c.entered-entered.ensures.value
          c.entered-entered.ensures.is_note e r is c.in_ok-reader.reader
          c.in_ok-reader.ensures.open c.head-head.result c.head-head.ensures.value
          c.in_ok-check_slip.ensures.value c.in_err-identify.ensures.value;
    }

-- the posting was refused
pub returns-in_err-state : goal.returns-in_err-state
returns-in_err-state g c =
    let a = c.args in
    let e = c.in_err-state.field-0.0 in
    let r = c.from_residual-in_err-state.result in
    let is = exit_is r e c.from_residual-in_err-state.ensures.1 in
    record {
      countersigns =
          countersign_refused a.self.now c.in_ok-reader.reader c.in_ok-reader.ensures.open
          c.head-head.result c.head-head.ensures.value r a.self.now g.B.Book.meaning a.user
          a.word.now a.slip.now.entered c.entered-entered.result c.entered-entered.ensures.value
          c.entered-entered.ensures.is_note c.in_ok-check_slip.ensures.value
          c.in_ok-identify.ensures.value e c.in_err-state.ensures.gives is;
    }

-- it was applied
pub returns : goal.returns
returns g c =
    let a = c.args in
    record {
      countersigns =
          countersign_made a.self.now c.in_ok-reader.reader c.in_ok-reader.ensures.open
          c.head-head.result c.head-head.ensures.value c.make_update.result c.make_update.new.self
          g.B.Book.meaning a.user a.word.now a.slip.now.entered c.entered-entered.result
          c.entered-entered.ensures.value c.entered-entered.ensures.is_note
          c.in_ok-check_slip.ensures.value c.in_ok-identify.ensures.value
          (state_of c.in_ok-state.state) c.in_ok-state.ensures.gives c.posting.result
          c.posting.ensures.value c.make_update.ensures.makes;
    }
