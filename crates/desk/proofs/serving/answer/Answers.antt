use Rattle.std.proofs.Common.{List, Some, ap, ◌∙◌}
use Rattle.books.specs.Meaning.{Meaning}
use Rattle.monitor.specs.declared.slip_numbers.SlipNumbers.{SlipNumbers}
use Rattle.monitor.specs.MonitorState.{MonitorState}
use Rattle.desk.specs.declared.tray.WaitingSlip.{WaitingSlip}
use Rattle.desk.specs.Serving.{EnterRequest, CountersignRequest, WithdrawRequest, PlainRequest, request_value, waiting_values}
use Rattle.calls.specs.PlainValue.{plain_value}
use Rattle.desk.proofs.ServesAsDefined.{as_asked, countersigns, countersigns_none, withdraws, withdraws_none}
use Rattle.desk.proofs.TrayAsDefined.{stays}
use Rattle.desk.proofs.serving.answer.Goals as goal

pub returns-in-Enter-clause-asks : goal.returns-in-Enter-clause-asks
returns-in-Enter-clause-asks g c =
    as_asked g.B.Book.meaning c.args.monitor.now c.make.new.monitor c.args.tray.now.items c.make.new.tray.items _ (EnterRequest c.in-Enter.name.now c.in-Enter.user c.in-Enter.word.now c.in-Enter.note) c.make.result (ap request_value c.in-Enter.is) c.make.ensures.makes

-- the slip that waits was taken off the tray and countersigned
pub returns-in-Some-clause-asks : goal.returns-in-Some-clause-asks
returns-in-Some-clause-asks g c =
    let m : Meaning = g.B.Book.meaning in
    let s : MonitorState = c.args.monitor.now in
    let t : MonitorState = c.make-in-Some.new.monitor in
    let ws : List WaitingSlip = c.args.tray.now.items in
    let vs : List WaitingSlip = c.make-in-Some.new.tray.items in
    let n = c.in-Countersign.name.now in
    let user = c.in-Countersign.user in
    let word = c.in-Countersign.word.now in
    as_asked m s t ws vs _ (CountersignRequest n user word) c.make-in-Some.result (ap request_value c.in-Countersign.is)
    (countersigns m s ws c.take_slip.new.tray.items n user word c.in-Some.slip.entered t vs c.make-in-Some.result c.in-Some.ensures.slip c.in-Some.ensures.rest c.make-in-Some.ensures.makes)

-- none waits
pub returns-in-None-clause-asks : goal.returns-in-None-clause-asks
returns-in-None-clause-asks g c =
    let m : Meaning = g.B.Book.meaning in
    let s : MonitorState = c.args.monitor.now in
    let ws : List WaitingSlip = c.args.tray.now.items in
    let us : List WaitingSlip = c.take_slip.new.tray.items in
    let n = c.in-Countersign.name.now in
    as_asked m s s ws us _ (CountersignRequest n c.in-Countersign.user c.in-Countersign.word.now) _ (ap request_value c.in-Countersign.is)
    (countersigns_none m s ws us n c.in-Countersign.user c.in-Countersign.word.now c.in-None.ensures.slip (c.in-None.ensures.rest ∙ stays (waiting_values ws) n c.in-None.ensures.slip))

-- the slip that waits was taken off the tray and withdrawn
pub returns-in-Some-take_slip-clause-asks : goal.returns-in-Some-take_slip-clause-asks
returns-in-Some-take_slip-clause-asks g c =
    let m : Meaning = g.B.Book.meaning in
    let s : MonitorState = c.args.monitor.now in
    let ws : List WaitingSlip = c.args.tray.now.items in
    let us : List WaitingSlip = c.take_slip-in-Withdraw.new.tray.items in
    let n = c.in-Withdraw.name.now in
    as_asked m s s ws us _ (WithdrawRequest n) _ (ap request_value c.in-Withdraw.is)
    (withdraws m s ws us n c.withdraw.result (ap (λ (e : SlipNumbers). Some e) c.withdraw.ensures.value ∙ c.in-Some-take_slip.ensures.slip) c.in-Some-take_slip.ensures.rest)

pub returns-in-None-take_slip-clause-asks : goal.returns-in-None-take_slip-clause-asks
returns-in-None-take_slip-clause-asks g c =
    let m : Meaning = g.B.Book.meaning in
    let s : MonitorState = c.args.monitor.now in
    let ws : List WaitingSlip = c.args.tray.now.items in
    let us : List WaitingSlip = c.take_slip-in-Withdraw.new.tray.items in
    let n = c.in-Withdraw.name.now in
    as_asked m s s ws us _ (WithdrawRequest n) _ (ap request_value c.in-Withdraw.is)
    (withdraws_none m s ws us n c.in-None-take_slip.ensures.slip (c.in-None-take_slip.ensures.rest ∙ stays (waiting_values ws) n c.in-None-take_slip.ensures.slip))

-- a call that needs no slip
pub returns-in-Plain-clause-asks : goal.returns-in-Plain-clause-asks
returns-in-Plain-clause-asks g c =
    as_asked g.B.Book.meaning c.args.monitor.now c.make-in-Plain.new.monitor c.args.tray.now.items c.make-in-Plain.new.tray.items _ (PlainRequest (plain_value c.in-Plain.call)) c.make-in-Plain.result (ap request_value c.in-Plain.is) c.make-in-Plain.ensures.makes
