use Rattle.std.proofs.Common.{◌≡◌, ℕ, List, ap}
use Rattle.std.proofs.lemmas.Result.{IfOk-weaker}
use Rattle.books.specs.Meaning.{Meaning}
use Rattle.script.specs.Reading.{SetupValue, setup_value}
use Rattle.trial.specs.Bytes.{blocks_of}
use Rattle.trial.specs.TrialState.{TrialState, disk}
use Rattle.monitor.specs.MonitorState.{MonitorState}
use Rattle.day.specs.DayRun.{shut_over}
use Rattle.day.proofs.PartsJoin.{opened_as, served_as, taken_back}
use Rattle.day.proofs.day.begin.Goals as goal

-- the rig was formatted, and its drive taken back
pub returns-clause-begun : goal.returns-clause-begun
returns-clause-begun g c =
    let m : Meaning = g.B.Book.meaning in
    let s : MonitorState = c.serve-firsts.new.monitor in
    let bytes : List ℕ = c.args.bytes.now in
    let setup : SetupValue = setup_value c.args.setup.now in
    let d : TrialState = c.into_parts-drive.result.0 in
    let made : c.over-monitor.result ≡ shut_over (blocks_of bytes) = opened_as c.over-monitor.result c.over.result.drive bytes c.over-monitor.ensures.shut (ap disk c.over.ensures.fresh) in
    IfOk-weaker c.serve-firsts.result _ _
    (λ firsts k. (s, served_as m _ (shut_over (blocks_of bytes)) s _ _ _ made c.in-Ok.ensures.asks k, taken_back d c.into_bytes.result.now s c.into_parts-drive.ensures.drive c.into_bytes.ensures.bytes))
    c.serve-firsts.ensures.served
