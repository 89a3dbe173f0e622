-- Days one after another on one drive.
use Rattle.std.specs.Prelude.{ℕ, List, []}
use Rattle.books.specs.Meaning.{Meaning}
use Rattle.script.specs.Reading.{SetupValue}
use Rattle.monitor.specs.MonitorState.{MonitorState}
use Rattle.histories.specs.Events.{Event, History, begun, again}
use Rattle.histories.specs.Law.{Law}
use Rattle.desk.specs.declared.told.Told.{Told}
use Rattle.desk.specs.Serving.{RequestValue}
use Rattle.day.specs.declared.start.Start.{Start}
use Rattle.day.specs.DayRun.{shut_over, blocks_on, day_history, DayRan, events_with}

-- any number of days, each on what the one before it left: what happened on all of them, and the
-- blocks of the drive at their end. The first may be run on any drive
pub data Days (m : Meaning) : List Event → List (List ℕ) → Type 0 where
  no_day : {bs : List (List ℕ)} → Days m [] bs
  day_after :
      {es : List Event} {bs : List (List ℕ)} {start : Start} {g : SetupValue}
      {requests : List RequestValue} {firsts told looks : List Told} {end : MonitorState}
      → Days m es bs → (k : DayRan m start bs g requests firsts told looks end)
      → Days m (events_with k es) (blocks_on end)

-- they are one history
abbrev pub days_history :
    {m : Meaning} {es : List Event} {bs : List (List ℕ)} → Days m es bs → History m es (shut_over bs)
days_history no_day = begun
days_history (day_after days k) =
    again
    (day_history (days_history days) k.starts.law.run k.takes_over k.day.law.run k.looked.law.run)
    k.goes_on

-- which obeys the law
abbrev pub DaysAreLawful : Type 0
DaysAreLawful =
    (m : Meaning) (es : List Event) (bs : List (List ℕ)) (days : Days m es bs)
    → Law m (days_history days)
