-- The parts of a day, by what each makes of the bytes that it is handed.
use Rattle.std.specs.Prelude.{◌≡◌, ℕ, List, vec_items, Result, MatchResult}
use Rattle.std.specs.declared.alloc.AllocError.{AllocError}
use Rattle.books.specs.Meaning.{Meaning}
use Rattle.trial.specs.Bytes.{blocks_of}
use Rattle.script.specs.Reading.{SetupValue}
use Rattle.monitor.specs.MonitorState.{MonitorState}
use Rattle.journals.specs.JournalState.{TakenOver}
use Rattle.desk.specs.declared.told.Told.{Told}
use Rattle.desk.specs.Serving.{RequestValue, Served}
use Rattle.day.specs.declared.day.Day.{Day}
use Rattle.day.specs.declared.start.Start.{Start}
use Rattle.day.specs.DayRun.{shut_over, blocks_on, every_record}
use Rattle.day.specs.Plan.{first_requests}

-- bytes that were taken back from a monitor: they are the blocks of its drive, and a fresh trial
-- drive of them takes it over
pub record TakenBack (s : MonitorState) (left : List ℕ) : Type 0 where
  pub same : blocks_of left ≡ blocks_on s
  pub takes_over : TakenOver s.disk (shut_over (blocks_of left)).disk

-- the first part was done
abbrev pub Begun : Meaning → Start → List ℕ → SetupValue → List Told → List ℕ → Type 0
Begun m start bytes g firsts left =
    (s : MonitorState) × Served m (shut_over (blocks_of bytes)) (first_requests start g) firsts s
    × TakenBack s left

-- requests, and looks at so many records, on a monitor
pub record Looked
    (m : Meaning) (s : MonitorState) (requests : List RequestValue) (n : ℕ)
    (told looks : List Told) (t : MonitorState) : Type 0 where
  pub closed : MonitorState
  pub requests_served : Served m s requests told closed
  pub looks_served : Served m closed (every_record n) looks t

-- the same, where memory was wanted
pub data Stopped
    (m : Meaning) (s : MonitorState) (requests : List RequestValue) (t : MonitorState)
    : Type 0 where
  unserved : t ≡ s → Stopped m s requests t
  unlooked : {told : List Told} → Served m s requests told t → Stopped m s requests t

-- a day that went on, from a monitor to another, after what was told of the format
abbrev pub ServesDay :
    Meaning → MonitorState → List RequestValue → ℕ → List Told → Result Day AllocError →
    MonitorState → Type 0
ServesDay m s requests n firsts r t =
    MatchResult r
    (λ d. (vec_items d.firsts ≡ firsts) × (d.stage ≡ t.stage)
    × Looked m s requests n (vec_items d.told) (vec_items d.looks) t)
    (λ _. Stopped m s requests t)

-- the same, with the bytes of the drive taken back
abbrev pub ServedDay :
    Meaning → MonitorState → List RequestValue → ℕ → List Told → Result Day AllocError → List ℕ →
    Type 0
ServedDay m s requests n firsts r left =
    (t : MonitorState) × ServesDay m s requests n firsts r t × TakenBack t left
