use Rattle.std.proofs.Common.{◌≡◌, ℕ, map, length, sym, ap, subst, ◌∙◌}
use Rattle.std.proofs.lemmas.Result.{IfOk-at_ok, IfErr-at_err}
use Rattle.books.specs.Meaning.{Meaning}
use Rattle.trial.specs.Bytes.{blocks_of}
use Rattle.trial.specs.Laws.{length_blocks}
use Rattle.desk.specs.Serving.{request_value}
use Rattle.day.specs.DayRun.{shut_over, looked_at}
use Rattle.day.specs.Parts.{ServedDay}
use Rattle.day.proofs.PartsJoin.{serves_day, went_from, never_begun}
use Rattle.day.proofs.day.run_parts.Goals as goal

-- the day went on from the first part
pub returns-in-Ok : goal.returns-in-Ok
returns-in-Ok g c =
    let m : Meaning = g.B.Book.meaning in
    let count : c.records_to_look_at-records.result ≡ looked_at (length (blocks_of c.args.bytes.now)) =
    c.records_to_look_at-records.ensures.value ∙ ap looked_at (sym (length_blocks c.args.bytes.now)) in
    let went = went_from m _ _ _ _ _ _ _ _ c.over-drive.ensures.fresh c.serve_cut.ensures.served_day in
    let served = subst (λ (n : ℕ). ServedDay m (shut_over (blocks_of c.begin-bytes.result.0.now)) (map request_value c.args.requests.items) n c.in-Ok.firsts.items c.serve_cut.result.1 c.serve_cut.result.0.now) count went in
    record { ran = serves_day m c.args.start c.args.bytes.now c.begin-bytes.result.0.now c.serve_cut.result.0.now _ _ c.in-Ok.firsts.items c.serve_cut.result.1 (IfOk-at_ok _ c.in-Ok.is c.begin-bytes.ensures.begun) served }

-- memory was wanted before it
pub returns : goal.returns
returns g c =
    record { ran = never_begun g.B.Book.meaning c.args.start c.args.bytes.now c.begin-bytes.result.0.now _ _ c.in-Err.error (IfErr-at_err _ c.in-Err.is c.begin-bytes.ensures.unbegun) }
