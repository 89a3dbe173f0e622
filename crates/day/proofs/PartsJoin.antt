-- The parts of a day one after another, and the history of them all.
use Rattle.std.proofs.Common.{◌≡◌, ℕ, Bool, false, List, length, Ok, Err, Result, refl, sym, ap, subst, ◌∙◌}
use Rattle.std.specs.declared.alloc.AllocError.{AllocError}
use Rattle.std.specs.Prelude.{vec_items}
use Rattle.books.specs.Meaning.{Meaning}
use Rattle.drives.specs.Disk.{Disk, May}
use Rattle.trial.specs.Bytes.{blocks_of, disk_with, disk_of}
use Rattle.trial.specs.TrialState.{TrialState, disk, fresh}
use Rattle.journals.specs.JournalState as journal
use Rattle.script.specs.Reading.{SetupValue}
use Rattle.monitor.specs.declared.stage.Stage.TheVariants.{Shut}
use Rattle.monitor.specs.MonitorState.{MonitorState, monitor_with}
use Rattle.histories.specs.Events.{again, onto}
use Rattle.desk.specs.declared.told.Told.{Told}
use Rattle.desk.specs.Serving.{RequestValue, Served}
use Rattle.day.specs.declared.day.Day.{Day}
use Rattle.day.specs.declared.start.Start.{Start}
use Rattle.day.specs.DayRun.{shut_over, blocks_on, looked_at, every_record, DayRan, DayRanOr, Aborted, before_format, before_requests, before_looks}
use Rattle.day.specs.Parts.{TakenBack, Begun, Stopped, unserved, unlooked, ServesDay, ServedDay}
use Rattle.day.specs.Plan.{first_requests}

-- a fresh trial drive on the bytes of another takes it over
pub takes_over : (on : Bool) (bytes : List ℕ) → journal.TakenOver (disk_of on bytes) (disk_of false bytes)
unfolding May
takes_over on bytes = record { same_size = refl; no_more = λ i x l h. h }

-- the history of the three parts
pub ran :
    (m : Meaning) (start : Start) (bs : List (List ℕ)) (g : SetupValue) (requests : List RequestValue) (firsts told looks : List Told) (s t u : MonitorState)
    → Served m (shut_over bs) (first_requests start g) firsts s → journal.TakenOver s.disk (disk_with false (blocks_on s))
    → Served m (shut_over (blocks_on s)) requests told t → Served m t (every_record (looked_at (length bs))) looks u
    → journal.TakenOver u.disk (disk_with false (blocks_on u))
    → DayRan m start bs g requests firsts told looks u
ran m start bs g requests firsts told looks s t u a o b c n =
    record {
      started = s;
      closed = t;
      starts = a;
      takes_over = o;
      day = b;
      looked = c;
      law = λ es before. c.law.law _ (onto (again (onto before a.law.run) o) b.law.run);
      goes_on = n;
    }

-- a monitor that was made over a fresh trial drive
pub opened_as :
    (s : MonitorState) (d : TrialState) (bytes : List ℕ) → s ≡ monitor_with Shut (disk d) → disk d ≡ disk_of false bytes → s ≡ shut_over (blocks_of bytes)
opened_as s d bytes p e = p ∙ ap (λ z. monitor_with Shut z) e

-- what was served from a monitor by another name, of requests by another name
pub served_as : (m : Meaning) (s t u : MonitorState) (asked requests : List RequestValue) (told : List Told) → s ≡ t → asked ≡ requests → Served m s asked told u → Served m t requests told u
served_as m s t u asked requests told e f h = subst (λ z. Served m t z told u) f (subst (λ z. Served m z asked told u) e h)

-- the bytes that were taken back from a trial drive, whose monitor stood on it
pub taken_back :
    (d : TrialState) (left : List ℕ) (s : MonitorState) → disk d ≡ s.disk → left ≡ d.bytes → TakenBack s left
taken_back d left s p q =
    record {
      same = ap blocks_of q ∙ ap (λ (z : Disk). z.blocks) p;
      takes_over =
          subst (λ (z : journal.JournalState). journal.TakenOver z (disk_of false left)) p
          (subst (λ z. journal.TakenOver (disk d) (disk_of false z)) (sym q) (takes_over d.on d.bytes));
    }

-- the drive of a monitor is taken over by one of its own blocks
over_itself : (s : MonitorState) (left : List ℕ) → TakenBack s left → journal.TakenOver s.disk (disk_with false (blocks_on s))
over_itself s left back = subst (λ z. journal.TakenOver s.disk (disk_with false z)) back.same back.takes_over

-- the day went on from what the first part left
pub serves_day :
    (m : Meaning) (start : Start) (bytes left after : List ℕ) (g : SetupValue) (requests : List RequestValue) (firsts : List Told) (r : Result Day AllocError)
    → Begun m start bytes g firsts left → ServedDay m (shut_over (blocks_of left)) requests (looked_at (length (blocks_of bytes))) firsts r after
    → DayRanOr m start (blocks_of bytes) g requests r (blocks_of after)
serves_day m start bytes left after g requests firsts (Ok d) (s, starts, back) (t, (is, at, k), end) =
    let here : shut_over (blocks_of left) ≡ shut_over (blocks_on s) = ap shut_over back.same in
    let day = served_as m _ (shut_over (blocks_on s)) k.closed requests requests _ here refl k.requests_served in
    let told = subst (λ z. Served m (shut_over (blocks_of bytes)) (first_requests start g) z s) (sym is) starts in
    let told_all = ran m start (blocks_of bytes) g requests (vec_items d.firsts) (vec_items d.told) (vec_items d.looks) s k.closed t told (over_itself s left back) day k.looks_served (over_itself t after end) in
    (t, sym at, sym end.same, told_all)
serves_day m start bytes left after g requests firsts (Err e) (s, starts, back) (t, stopped, end) =
    let here : shut_over (blocks_of left) ≡ shut_over (blocks_on s) = ap shut_over back.same in
    subst (Aborted m start (blocks_of bytes) g requests) (sym end.same) (broken stopped here) where
      broken : Stopped m (shut_over (blocks_of left)) requests t → shut_over (blocks_of left) ≡ shut_over (blocks_on s) → Aborted m start (blocks_of bytes) g requests (blocks_on t)
      broken (unserved is) here = subst (λ (z : MonitorState). Aborted m start (blocks_of bytes) g requests (blocks_on z)) (sym (is ∙ here)) (before_requests starts)
      broken (unlooked k) here = before_looks starts (served_as m _ (shut_over (blocks_on s)) t requests requests _ here refl k)

-- memory was wanted before the first part
pub never_begun :
    (m : Meaning) (start : Start) (bytes left : List ℕ) (g : SetupValue) (requests : List RequestValue) (e : AllocError)
    → blocks_of left ≡ blocks_of bytes → DayRanOr m start (blocks_of bytes) g requests (Err e) (blocks_of left)
never_begun m start bytes left g requests e same = subst (Aborted m start (blocks_of bytes) g requests) (sym same) before_format

-- a day that stopped, by its answer
pub stopped_as :
    (m : Meaning) (s t : MonitorState) (requests : List RequestValue) (n : ℕ) (firsts : List Told) (r : Result Day AllocError) (e : AllocError)
    → r ≡ Err e → Stopped m s requests t → ServesDay m s requests n firsts r t
stopped_as m s t requests n firsts r e is k = subst (λ z. ServesDay m s requests n firsts z t) (sym is) k

-- nothing was looked at
pub unlooked_at :
    {m : Meaning} {s t u : MonitorState} {requests : List RequestValue} {told : List Told} → u ≡ t → Served m s requests told t → Stopped m s requests u
unlooked_at {m} {s} {t} {u} {requests} {told} e k = subst (λ (z : MonitorState). Stopped m s requests z) (sym e) (unlooked k)

-- what went on from a drive that is the bytes that were left
pub went_from :
    (m : Meaning) (d : TrialState) (bytes cuts left : List ℕ) (requests : List RequestValue) (n : ℕ) (firsts : List Told) (r : Result Day AllocError)
    → d ≡ fresh bytes cuts → ServedDay m (monitor_with Shut (disk d)) requests n firsts r left → ServedDay m (shut_over (blocks_of bytes)) requests n firsts r left
went_from m d bytes cuts left requests n firsts r e k = subst (λ (z : TrialState). ServedDay m (monitor_with Shut (disk z)) requests n firsts r left) e k
