-- The law of every history.
use Rattle.std.specs.Prelude.{◌≡◌, ◌≢◌, ℕ, ◌+◌, ◌≤◌, true, List, [], ◌∷◌, ◌++◌, map, length, replicate, Some, Ok, Err, Result, slice_set, IfSome, None, Option}
use Rattle.refusals.specs.declared.places.PowerPlace.TheVariants.{Starting}
use Rattle.refusals.specs.declared.refusal.Refusal.{Refusal}
use Rattle.refusals.specs.Refused.{lost_at}
use Rattle.books.specs.Meaning.{Meaning, StepTests, StepGivesCodes}
use Rattle.rights.specs.Covers.{covered, free}
use Rattle.rights.specs.declared.row_question.RowQuestion.{RowQuestion}
use Rattle.rights.specs.declared.row.Row.{Row}
use Rattle.records.specs.declared.record.Posting.{Posting as PostingRecord}
use Rattle.records.specs.declared.record.Record.{Record}
use Rattle.records.specs.declared.record.Record.TheVariants.{Posting, Certification, Strike}
use Rattle.applying.specs.BookState.{BookState, opened, row_of, effect}
use Rattle.applying.specs.Applied.{enters, countersigns, applied_all}
use Rattle.image.specs.Home.{items_on, opening_on, rows_on, records_on}
use Rattle.monitor.specs.declared.stage.Stage.TheVariants.{Open}
use Rattle.monitor.specs.MonitorState.{MonitorState, home_of, room_of}
use Rattle.calls.specs.PlainValue.{AttachCall}
use Rattle.histories.specs.declared.answer.Answer.{Answer}
use Rattle.histories.specs.declared.answer.Answer.TheVariants as answer
use Rattle.histories.specs.Events.{CallValue, PlainCall, Event, History, begun, then, again, Run, onto}
use Rattle.histories.specs.Tally.{Books, Tally, tally, change_asked}

-- the rows that records give, one after another
abbrev pub rows_after : List Row → List Record → List Row
rows_after rows [] = rows
rows_after rows (Posting p ∷ xs) = rows_after rows xs
rows_after rows (Certification c ∷ xs) =
    rows_after (slice_set rows c.row (row_of c)) xs
rows_after rows (Strike k ∷ xs) = rows_after (slice_set rows k free) xs

-- some row covers a, and some row covers b
abbrev pub Entitled : List Row → RowQuestion → ℕ → ℕ → Type 0
Entitled rows q a b = (covered rows q a ≡ true) × (covered rows q b ≡ true)

-- a user who executes, from 1 to 15: user 0 is the custodian, who certifies and never executes
abbrev pub Executes : ℕ → Type 0
Executes user = (1 ≤ user) × (user ≤ 15)

-- a posting names two different users who execute, each entitled in their role to that procedure on
-- both items
pub record TwoPeople (rows : List Row) (p : PostingRecord) : Type 0 where
  pub different : p.enterer ≢ p.countersigner
  pub enterer_executes : Executes p.enterer
  pub countersigner_executes : Executes p.countersigner
  pub enterer : Entitled rows (enters p) p.a p.b
  pub countersigner : Entitled rows (countersigns p) p.a p.b

-- of every posting among the records, by the rows that the records before it give
abbrev pub EachByTwo : List Record → Type 0
EachByTwo records =
    (before after : List Record) (p : PostingRecord) →
    records ≡ before ++ (Posting p ∷ after) →
    TwoPeople (rows_after (replicate 32 free) before) p

-- an open monitor against the books of the tally: its drive shows their items, rows and records;
-- the items are valid by the book, and come from the opening by applying the records, one for each
-- change that stands; and two people stand behind each posting
pub record Agrees (m : Meaning) (s : MonitorState) (b : Books) : Type 0 where
  pub items : items_on (home_of s) ≡ b.state.items
  pub rows : rows_on (home_of s) ≡ b.state.rows
  pub records : records_on (home_of s) ≡ map Some b.records
  pub opening : opening_on (home_of s) ≡ b.opening
  pub valid : m.valid b.state.items ≡ true
  pub records_applied : applied_all m (room_of s) (opened b.opening) b.records ≡ Ok b.state
  pub every : b.state.count ≡ length b.records
  pub by_two : EachByTwo b.records

-- an acknowledged change took effect, and its answer is the record count with it
abbrev pub TookEffect : Meaning → Books → Record → Result ℕ Refusal → Type 0
TookEffect m b x (Ok n) = (n ≡ length b.records + 1) × ((s : BookState) × (effect m b.state x ≡ Some s))
TookEffect m b x (Err e) = Unit {0}

-- attach refuses only for lost power
abbrev pub OnlyForPower : Result ℕ Refusal → Type 0
OnlyForPower (Ok n) = Unit {0}
OnlyForPower (Err e) = e ≡ lost_at Starting

-- what a change owes, by its answer; where there is none, nothing is owed
abbrev pub Effective : Meaning → Books → Option Record → Result ℕ Refusal → Type 0
Effective m b None r = Unit {0}
Effective m b (Some x) r = TookEffect m b x r

-- what a call and its answer owe the tally before them
abbrev pub Owed : Meaning → Tally → CallValue → Answer → Type 0
Owed m t (PlainCall AttachCall) (answer.Count r) = OnlyForPower r
Owed m t c (answer.Count r) = Effective m t.books (change_asked c) r
Owed m t _ _ = Unit {0}

-- the law of one moment, right after an event that led to the monitor s: the event gave the tally
-- before it, if there was one, what it owed; and if the monitor is open now and there is a tally,
-- they agree
pub record LawNow (m : Meaning) (e : Event) (es : List Event) (s : MonitorState) : Type 0 where
  pub owed : IfSome (tally m es) (λ t. Owed m t e.call e.answer)
  pub agrees : s.stage ≡ Open → IfSome (tally m (e ∷ es)) (λ t. Agrees m s t.books)

-- the law of a history: it held at every moment, after each event. A monitor that takes a drive
-- over is shut, and owes nothing yet
abbrev pub Law : (m : Meaning) {es : List Event} {s : MonitorState} → History m es s → Type 0
Law m begun = Unit {0}
Law m (then {es} {s} {t} {e} h d) = Law m h × LawNow m e es t
Law m (again h k) = Law m h

-- every history obeys the law, for every book whose step makes its tests in their order and gives
-- codes of 64 bits
abbrev pub LawHolds : Type 0
LawHolds = (m : Meaning) → StepTests m → StepGivesCodes m → (es : List Event) (s : MonitorState) (h : History m es s) → Law m h

-- these events, the latest first, are a run from one monitor to another; and whatever history led
-- to the first, the law holds of that history and the run behind it
pub record Extends (m : Meaning) (s : MonitorState) (events : List Event) (t : MonitorState) : Type 0 where
  pub run : Run m s events t
  pub law : (es : List Event) (h : History m es s) → Law m (onto h run)
