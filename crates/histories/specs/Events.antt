-- What happened: a call of the monitor with all that it took, and its answer. And what the call's
-- own promise says of it.
use Rattle.std.specs.Prelude.{◌≡◌, ℕ, List, [], ◌∷◌, ◌++◌, Result}
use Rattle.refusals.specs.declared.refusal.Refusal.{Refusal}
use Rattle.books.specs.Meaning.{Meaning}
use Rattle.notes.specs.declared.note_numbers.NoteNumbers.{NoteNumbers}
use Rattle.journals.specs.JournalState.{JournalState, TakenOver}
use Rattle.calls.specs.PlainValue.{PlainValue, plain_value, FormatCall, AttachCall, CertifyCall, StrikeCall, ItemCall, RecordCall}
use Rattle.monitor.specs.declared.slip_numbers.SlipNumbers.{SlipNumbers}
use Rattle.monitor.specs.declared.stage.Stage.TheVariants.{Shut}
use Rattle.monitor.specs.Asking.{entered, item_found, record_found}
use Rattle.monitor.specs.Calls as monitor
use Rattle.monitor.specs.MonitorState.{MonitorState, monitor_with}
use Rattle.monitor.specs.Slips.{handed_out}
use Rattle.monitor.specs.Starting as starting
use Rattle.histories.specs.declared.answer.Answer.{Answer}
use Rattle.histories.specs.declared.answer.Answer.TheVariants as answer
use Rattle.histories.specs.declared.call.Call.{Call}
use Rattle.histories.specs.declared.call.Call.TheVariants as call

-- a call by its numbers and bytes
pub data CallValue : Type 0 where
  EnterCall : (user : ℕ) (word : List ℕ) (note : NoteNumbers) → CallValue
  CountersignCall : (user : ℕ) (word : List ℕ) (slip : SlipNumbers) → CallValue
  PlainCall : PlainValue → CallValue

abbrev pub call_value : Call → CallValue
call_value (call.Enter user word note) = EnterCall user word.now note
call_value (call.Countersign user word slip) = CountersignCall user word.now slip.entered
call_value (call.Plain c) = PlainCall (plain_value c)

-- a call, and what was answered
pub record Event : Type 0 where
  pub call : CallValue
  pub answer : Answer

abbrev pub event : CallValue → Answer → Event
event c a = record { call = c; answer = a }

-- the answer is a record count, or a refusal of one, of which P holds
abbrev pub AnswersCount : Answer → (Result ℕ Refusal → Type 0) → Type 0
AnswersCount a P = (r : Result ℕ Refusal) × (a ≡ answer.Count r) × P r

-- what each call promises of its answer: s is the monitor before, t after
abbrev pub PlainlyPromised : Meaning → MonitorState → PlainValue → Answer → MonitorState → Type 0
PlainlyPromised m s (FormatCall house roll opening) a t = AnswersCount a (λ r. starting.Formats m s house roll opening r t)
PlainlyPromised m s AttachCall a t = AnswersCount a (λ r. starting.Attaches m s r t)
PlainlyPromised m s (CertifyCall word draft) a t = AnswersCount a (λ r. monitor.Certifies m s word draft r t)
PlainlyPromised m s (StrikeCall word row) a t = AnswersCount a (λ r. monitor.Strikes s word row r t)
PlainlyPromised m s (ItemCall item) a t = (a ≡ answer.Code (item_found s item)) × (t ≡ s)
PlainlyPromised m s (RecordCall number) a t = (a ≡ answer.Record (record_found s number)) × (t ≡ s)

abbrev pub Promised : Meaning → MonitorState → CallValue → Answer → MonitorState → Type 0
Promised m s (EnterCall user word note) a t = (a ≡ answer.Slip (handed_out (entered m s user word note))) × (t ≡ s)
Promised m s (CountersignCall user word slip) a t = AnswersCount a (λ r. monitor.Countersigns m s user word slip r t)
Promised m s (PlainCall c) a t = PlainlyPromised m s c a t

abbrev pub Happens : Meaning → MonitorState → Event → MonitorState → Type 0
Happens m s e t = Promised m s e.call e.answer t

-- what led to a monitor, the latest event first: it begins with a shut monitor over any drive, any
-- call may follow, answered in any way that its promise allows, and at any time another monitor,
-- shut at first, may take the drive over: one as large, on which nothing may stand that could not
-- stand before
pub data History (m : Meaning) : List Event → MonitorState → Type 0 where
  begun : {d : JournalState} → History m [] (monitor_with Shut d)
  then : {es : List Event} {s t : MonitorState} {e : Event} → History m es s → Happens m s e t → History m (e ∷ es) t
  again : {es : List Event} {s : MonitorState} {d : JournalState} → History m es s → TakenOver s.disk d → History m es (monitor_with Shut d)

-- calls made one after another on a monitor: s before them, t after
pub data Run (m : Meaning) (s : MonitorState) : List Event → MonitorState → Type 0 where
  still : Run m s [] s
  more : {es : List Event} {t u : MonitorState} {e : Event} → Run m s es t → Happens m t e u → Run m s (e ∷ es) u

-- a history, and then a run from the monitor that it led to
abbrev pub onto : {m : Meaning} {es : List Event} {s : MonitorState} {fs : List Event} {t : MonitorState} → History m es s → Run m s fs t → History m (fs ++ es) t
onto h still = h
onto h (more r k) = then (onto h r) k
