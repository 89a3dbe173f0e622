use Rattle.std.proofs.Common.{map, refl, ap}
use Rattle.std.proofs.lemmas.Result.{err_from_is_err_and}
use Rattle.books.specs.Meaning.{Meaning}
use Rattle.monitor.specs.MonitorState.{MonitorState}
use Rattle.desk.specs.Serving.{request_value}
use Rattle.day.specs.Parts.{unlooked}
use Rattle.day.proofs.PartsJoin.{served_as, stopped_as, unlooked_at}
use Rattle.day.proofs.day.serve_day.Goals as goal

-- memory was wanted for the looks
pub returns-in_err-look_at_every_record : goal.returns-in_err-look_at_every_record
returns-in_err-look_at_every_record g c =
    let p = err_from_is_err_and c.from_residual-in_err-look_at_every_record.result c.from_residual-in_err-look_at_every_record.ensures.1 in
    record { serves_day = stopped_as g.B.Book.meaning c.args.monitor.now c.serve.new.monitor _ _ _ _ p.0 p.1 (unlooked c.in_ok-told.ensures.served) }

pub returns-in_err-looks : goal.returns-in_err-looks
returns-in_err-looks g c =
    let p = err_from_is_err_and c.from_residual-in_err-looks.result c.from_residual-in_err-looks.ensures.1 in
    record { serves_day = stopped_as g.B.Book.meaning c.args.monitor.now c.serve-2.new.monitor _ _ _ _ p.0 p.1 (unlooked_at c.in_err-looks.ensures.untouched c.in_ok-told.ensures.served) }

-- all was done and looked at
pub returns : goal.returns
returns g c =
    let m : Meaning = g.B.Book.meaning in
    let s : MonitorState = c.serve.new.monitor in
    let t : MonitorState = c.serve-2.new.monitor in
    record {
      serves_day = (
        refl,
        c.stage.ensures.value,
        record {
          closed = s;
          requests_served = c.in_ok-told.ensures.served;
          looks_served = served_as m s s t _ _ _ refl (ap (map request_value) c.in_ok-look_at_every_record.ensures.asks) c.in_ok-looks.ensures.served;
        },
      );
    }
