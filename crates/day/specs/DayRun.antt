-- A day that is run on trial drives, in three parts: a new drive is formatted, as one that never
-- loses power, and one that stands is left as it is; then the day's requests are done on a fresh
-- drive over what that left, which loses power by the script's cut numbers; and last every record
-- is looked at.
use Rattle.std.specs.Prelude.{◌≡◌, ℕ, false, List, ◌++◌, map, length, vec_items, Result, MatchResult, if◌then◌else◌}
use Rattle.std.specs.List.{concat, range_with_len}
use Rattle.std.specs.declared.alloc.AllocError.{AllocError}
use Rattle.books.specs.Meaning.{Meaning}
use Rattle.trial.specs.Bytes.{blocks_of, behind_blocks, disk_with}
use Rattle.script.specs.Reading.{SetupValue}
use Rattle.monitor.specs.declared.stage.Stage.TheVariants.{Shut}
use Rattle.monitor.specs.MonitorState.{MonitorState, monitor_with}
use Rattle.journals.specs.JournalState.{blocks, TakenOver}
use Rattle.image.specs.Layout.{lawful_size, room}
use Rattle.histories.specs.Events.{Event, History, again, Run, onto}
use Rattle.histories.specs.Law.{Law}
use Rattle.calls.specs.declared.plain.Plain.TheVariants as plain
use Rattle.desk.specs.declared.request.Request.{Request}
use Rattle.desk.specs.declared.request.Request.TheVariants as request
use Rattle.desk.specs.declared.told.Told.{Told}
use Rattle.desk.specs.Serving.{RequestValue, request_value, Served}
use Rattle.day.specs.declared.day.Day.{Day}
use Rattle.day.specs.declared.start.Start.{Start}
use Rattle.day.specs.declared.left.Left.{Left}
use Rattle.day.specs.Plan.{first_requests}

-- a shut monitor over a fresh trial drive of these blocks
abbrev pub shut_over : List (List ℕ) → MonitorState
shut_over bs = monitor_with Shut (disk_with false bs)

-- the blocks of a monitor's drive
abbrev pub blocks_on : MonitorState → List (List ℕ)
blocks_on s = blocks s.disk

-- how many records are looked at: those for which a drive of so many blocks has room; none where no
-- monitor is ever open on it
abbrev pub looked_at : ℕ → ℕ
looked_at size = if lawful_size size then room size else 0

-- a look at each of so many records
abbrev pub every_look : ℕ → List Request
every_look n = map (λ k. request.Plain (plain.Record k)) (range_with_len 1 n)

abbrev pub every_record : ℕ → List RequestValue
every_record n = map request_value (every_look n)

-- a history, and the three parts behind it, one after another: the drive of the second takes the
-- first one's place
abbrev pub day_history :
    {m : Meaning} {bs : List (List ℕ)} {started closed end : MonitorState}
    {es fs gs hs : List Event} →
    History m es (shut_over bs) → Run m (shut_over bs) fs started →
    TakenOver started.disk (disk_with false (blocks_on started)) →
    Run m (shut_over (blocks_on started)) gs closed → Run m closed hs end →
    History m (hs ++ (gs ++ (fs ++ es))) end
day_history before first over second third = onto (onto (again (onto before first) over) second) third

-- the three parts, from a drive of these blocks on, each on what the one before it left. What
-- happened is the events of the three, one after another, the latest first. Whatever led to the
-- drive before, the law holds of that and of the day behind it, at every moment; and a fresh drive
-- of what the day left takes its place, so that another day goes on from there
pub record DayRan
    (m : Meaning) (start : Start) (bs : List (List ℕ)) (g : SetupValue)
    (requests : List RequestValue) (firsts told looks : List Told) (end : MonitorState) : Type 0
  where
    pub started : MonitorState
    pub closed : MonitorState
    pub starts : Served m (shut_over bs) (first_requests start g) firsts started
    pub takes_over : TakenOver started.disk (disk_with false (blocks_on started))
    pub day : Served m (shut_over (blocks_on started)) requests told closed
    pub looked : Served m closed (every_record (looked_at (length bs))) looks end
    pub law :
        (es : List Event) (before : History m es (shut_over bs))
        → Law m (day_history before starts.law.run takes_over day.law.run looked.law.run)
    pub goes_on : TakenOver end.disk (disk_with false (blocks_on end))

-- what happened on a day, and before it
abbrev pub events_with :
    {m : Meaning} {start : Start} {bs : List (List ℕ)} {g : SetupValue}
    {requests : List RequestValue} {firsts told looks : List Told} {end : MonitorState} →
    DayRan m start bs g requests firsts told looks end → List Event → List Event
events_with k es = k.looked.desk.happened ++ (k.day.desk.happened ++ (k.starts.desk.happened ++ es))

-- a day that was broken off for want of memory, by the blocks of its last drive
pub data Aborted
    (m : Meaning) (start : Start) (bs : List (List ℕ)) (g : SetupValue)
    (requests : List RequestValue) : List (List ℕ) → Type 0 where
  before_format : Aborted m start bs g requests bs
  before_requests :
      {firsts : List Told} {started : MonitorState}
      → Served m (shut_over bs) (first_requests start g) firsts started
      → Aborted m start bs g requests (blocks_on started)
  before_looks :
      {firsts told : List Told} {started closed : MonitorState}
      → Served m (shut_over bs) (first_requests start g) firsts started
      → Served m (shut_over (blocks_on started)) requests told closed
      → Aborted m start bs g requests (blocks_on closed)

-- a day that was run with this told, and came to this stage, by the blocks of its last drive
abbrev pub DayRanTo :
    Meaning → Start → List (List ℕ) → SetupValue → List RequestValue → Day → List (List ℕ) → Type 0
DayRanTo m start bs g requests d last =
    (end : MonitorState) × (end.stage ≡ d.stage) × (blocks_on end ≡ last)
    × DayRan m start bs g requests (vec_items d.firsts) (vec_items d.told) (vec_items d.looks) end

-- run to its end, or broken off for want of memory
abbrev pub DayRanOr :
    Meaning → Start → List (List ℕ) → SetupValue → List RequestValue → Result Day AllocError →
    List (List ℕ) → Type 0
DayRanOr m start bs g requests r last =
    MatchResult r
    (λ d. DayRanTo m start bs g requests d last)
    (λ _. Aborted m start bs g requests last)

-- either way the bytes that are left are the blocks of the last drive, and those behind the last
-- whole block are untouched
pub record RunsDay
    (m : Meaning) (start : Start) (bytes : List ℕ) (g : SetupValue) (requests : List RequestValue)
    (r : Result Day AllocError) (left : Left) : Type 0 where
  pub last : List (List ℕ)
  pub ran : DayRanOr m start (blocks_of bytes) g requests r last
  pub blocks_left : left.blocks.now ≡ concat last
  pub behind_left : left.behind.now ≡ behind_blocks bytes
