use Rattle.std.proofs.Common.{map, subst}
use Rattle.books.specs.Meaning.{Meaning}
use Rattle.monitor.specs.MonitorState.{MonitorState}
use Rattle.desk.specs.Serving.{request_value}
use Rattle.day.specs.Parts.{ServesDay}
use Rattle.day.proofs.PartsJoin.{taken_back}
use Rattle.day.proofs.day.serve_cut.Goals as goal

-- the day was served on the monitor that was made, and its drive taken back
pub returns : goal.returns
returns g c =
    let m : Meaning = g.B.Book.meaning in
    let t : MonitorState = c.serve_day-day.new.monitor in
    record {
      served_day = (
        t,
        subst (λ (z : MonitorState). ServesDay m z (map request_value c.args.requests.items) c.args.records c.args.firsts.items c.serve_day-day.result t)
            c.over-monitor.ensures.shut c.serve_day-day.ensures.serves_day,
        taken_back c.into_parts-drive.result.0 c.into_bytes.result.now t c.into_parts-drive.ensures.drive c.into_bytes.ensures.bytes,
      );
    }
