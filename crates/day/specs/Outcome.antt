-- What running a script comes to: a day that was run on a drive, new or standing, the replies by its
-- answers, its audit, and what it leaves of the drive.
use Rattle.std.specs.Prelude.{◌≡◌, ℕ, List, [], ◌∷◌, ◌++◌, map, length, replicate, take, Some, None, Ok, Option, vec_items, IfSome, IsSomeAnd}
use Rattle.std.specs.List.{concat, filter_map}
use Rattle.std.specs.Option.{option_map}
use Rattle.books.specs.Meaning.{Meaning}
use Rattle.trial.specs.Bytes.{blocks_of, behind_blocks}
use Rattle.records.specs.declared.record.Record.{Record}
use Rattle.registry.specs.declared.book_name.BookName.{BookName}
use Rattle.registry.specs.BookName.{meaning_of}
use Rattle.script.specs.FaultValue.{fault_value}
use Rattle.script.specs.Reading.{SetupValue, NumberedValue, ScriptValue}
use Rattle.monitor.specs.declared.stage.Stage.{Stage}
use Rattle.monitor.specs.declared.stage.Stage.TheVariants as stage
use Rattle.monitor.specs.MonitorState.{MonitorState}
use Rattle.histories.specs.Events.{Event, History}
use Rattle.histories.specs.Tally.{tally}
use Rattle.desk.specs.declared.told.Told.{Told}
use Rattle.desk.specs.declared.told.Told.TheVariants as told
use Rattle.day.specs.declared.audit.Audit.{Audit}
use Rattle.day.specs.declared.audit.Audit.TheVariants as audit
use Rattle.day.specs.declared.source.Source.{Source}
use Rattle.day.specs.declared.source.Source.TheVariants.{Format, Attach, Line}
use Rattle.day.specs.declared.reply.Reply.{Reply}
use Rattle.day.specs.declared.outcome.Outcome.{Outcome}
use Rattle.day.specs.declared.day.Day.{Day}
use Rattle.day.specs.declared.start.Start.{Start}
use Rattle.day.specs.declared.start.Start.TheVariants as start
use Rattle.desk.specs.Serving.{RequestValue}
use Rattle.day.specs.DayRun.{shut_over, blocks_on, looked_at, DayRan, events_with}
use Rattle.day.specs.Plan.{requests_of, all_expected}
use Rattle.day.specs.Replies.{replies_of, last_reply}

-- a new drive: 64 blocks of zeros
abbrev pub new_drive : List ℕ
new_drive = replicate 4096 0

-- the records that were seen by looking at each number
abbrev pub record_seen : Told → Option Record
record_seen (told.Record (Ok x)) = Some x
record_seen _ = None

abbrev pub records_seen : List Told → List Record
records_seen looks = filter_map record_seen looks

-- where there is a tally of what the books should hold, the records that were seen are its records,
-- up to the n-th
abbrev pub TellsTally : Meaning → List Event → ℕ → List Told → Type 0
TellsTally m happened n looks =
    IfSome (tally m happened) (λ t. records_seen looks ≡ take n t.books.records)

-- what is shown of a book's audit at a stage: its records exactly if the monitor is open
abbrev pub Shows : BookName → Stage → List Told → Audit → Type 0
Shows b stage.Shut looks a = a ≡ audit.Shut
Shows b stage.Dark looks a = a ≡ audit.Dark
Shows b stage.Open looks (audit.Records book v) = (book ≡ b) × (vec_items v ≡ records_seen looks)
Shows b stage.Open looks audit.Shut = ⊥
Shows b stage.Open looks audit.Dark = ⊥

-- what the replies answer: the format of a new drive, the attach, and every command in its order
abbrev pub first_sources : Start → List Source
first_sources start.Format = Format ∷ []
first_sources start.Attach = []

abbrev pub all_sources : Start → List NumberedValue → List Source
all_sources s commands = first_sources s ++ (Attach ∷ map (λ c. Line c.line) commands)

-- what is left of the bytes that a drive stood on: its blocks, and what is behind them, untouched
abbrev pub left_of : List ℕ → MonitorState → List ℕ
left_of bytes end = concat (blocks_on end) ++ behind_blocks bytes

-- a day that was run on a drive over these bytes, and what it left of them
abbrev pub RanAndLeft :
    Meaning → Start → List ℕ → SetupValue → List RequestValue → Day → List ℕ → Type 0
RanAndLeft m s bytes g requests d left =
    (end : MonitorState) × (end.stage ≡ d.stage) × (left ≡ left_of bytes end)
    × DayRan m s (blocks_of bytes) g requests
    (vec_items d.firsts) (vec_items d.told) (vec_items d.looks) end

-- a script that chose a book, run on a drive of that book which stands on these bytes
pub record RunsOn
    (b : BookName) (s : Start) (bytes : List ℕ) (g : SetupValue) (commands : List NumberedValue)
    (replies : List Reply) (shown : Option Audit) (left : Option (List ℕ)) : Type 0 where
  pub firsts : List Told
  pub told : List Told
  pub looks : List Told
  pub end : MonitorState
  pub day :
      DayRan (meaning_of b) s (blocks_of bytes) g (requests_of g commands) firsts told looks end
  pub replied : replies ≡ replies_of b (all_expected s g commands) (firsts ++ told)
  pub everything : map (λ (r : Reply). r.source) replies ≡ all_sources s commands
  pub tells_tally :
      (es : List Event) → History (meaning_of b) es (shut_over (blocks_of bytes))
      → end.stage ≡ stage.Open
      → TellsTally (meaning_of b) (events_with day es) (looked_at (length (blocks_of bytes))) looks
  pub audited : IsSomeAnd shown (Shows b end.stage looks)
  pub leaves : left ≡ Some (left_of bytes end)

-- what is left of the drive of an outcome, if it had one
abbrev pub left_in : Outcome → Option (List ℕ)
left_in o = option_map vec_items o.drive

-- what a script comes to, and last what ended its reading is refused; where it chose no book, there
-- is no day
abbrev pub RunsBy : Option BookName → Start → List ℕ → ScriptValue → Outcome → Type 0
RunsBy (Some b) s bytes r o =
    (replies : List Reply) × (vec_items o.replies ≡ replies ++ last_reply r.fault)
    × RunsOn b s bytes r.setup r.commands replies o.audit (left_in o)
RunsBy None s bytes r o =
    (vec_items o.replies ≡ last_reply r.fault) × (o.audit ≡ None) × (left_in o ≡ None)

-- what a script comes to, and why its reading ended
abbrev pub Runs : Start → List ℕ → ScriptValue → Outcome → Type 0
Runs s bytes r o =
    RunsBy r.setup.book s bytes r o × (option_map fault_value o.fault ≡ r.fault)
