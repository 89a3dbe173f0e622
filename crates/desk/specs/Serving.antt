-- Requests made one after another at the desk, where slips wait between enter and countersign or
-- withdraw.
use Rattle.std.specs.Prelude.{◌≡◌, ℕ, List, [], ◌∷◌, ◌++◌, map, Some, None, Ok, Err, Option, if◌then◌else◌}
use Rattle.std.specs.Str.{bytes_eq}
use Rattle.books.specs.Meaning.{Meaning}
use Rattle.notes.specs.declared.note_numbers.NoteNumbers.{NoteNumbers}
use Rattle.calls.specs.PlainValue.{PlainValue, plain_value}
use Rattle.monitor.specs.declared.slip_numbers.SlipNumbers.{SlipNumbers}
use Rattle.monitor.specs.MonitorState.{MonitorState}
use Rattle.histories.specs.declared.answer.Answer.{Answer}
use Rattle.histories.specs.declared.answer.Answer.TheVariants as answer
use Rattle.histories.specs.Events as calls
use Rattle.histories.specs.Events.{CallValue, Event, event, Happens}
use Rattle.histories.specs.Law.{Extends}
use Rattle.desk.specs.declared.request.Request.{Request}
use Rattle.desk.specs.declared.request.Request.TheVariants as request
use Rattle.desk.specs.declared.told.Told.{Told}
use Rattle.desk.specs.declared.told.Told.TheVariants as told-as
use Rattle.desk.specs.declared.tray.WaitingSlip.{WaitingSlip}

-- a request by its numbers and bytes: a call, in which the name of a slip stands for the slip, or a
-- slip withdrawn
pub data RequestValue : Type 0 where
  EnterRequest : (name : List ℕ) (user : ℕ) (word : List ℕ) (note : NoteNumbers) → RequestValue
  CountersignRequest : (name : List ℕ) (user : ℕ) (word : List ℕ) → RequestValue
  WithdrawRequest : (name : List ℕ) → RequestValue
  PlainRequest : PlainValue → RequestValue

abbrev pub request_value : Request → RequestValue
request_value (request.Enter name user word note) = EnterRequest name.now user word.now note
request_value (request.Countersign name user word) = CountersignRequest name.now user word.now
request_value (request.Withdraw name) = WithdrawRequest name.now
request_value (request.Plain c) = PlainRequest (plain_value c)

-- a slip that waits at the desk, under the name that it was entered under
pub record WaitingValue : Type 0 where
  pub name : List ℕ
  pub slip : SlipNumbers

abbrev pub waiting_value : WaitingSlip → WaitingValue
waiting_value w = record { name = w.name.now; slip = w.slip.entered }

abbrev pub waiting_values : List WaitingSlip → List WaitingValue
waiting_values ws = map waiting_value ws

-- the first slip that waits under a name, if one does
abbrev pub slip_waiting : List WaitingValue → List ℕ → Option SlipNumbers
slip_waiting [] name = None
slip_waiting (t ∷ ts) name = if bytes_eq t.name name then Some t.slip else slip_waiting ts name

-- the tray without it
abbrev pub without_slip : List WaitingValue → List ℕ → List WaitingValue
without_slip [] name = []
without_slip (t ∷ ts) name = if bytes_eq t.name name then ts else t ∷ without_slip ts name

-- the tray after an answer: a slip that it hands out lies behind the others, under a name
abbrev pub with_slip : List WaitingValue → List ℕ → Answer → List WaitingValue
with_slip tray name (answer.Slip (Ok slip)) = tray ++ (record { name = name; slip = slip.entered } ∷ [])
with_slip tray name _ = tray

-- an answer as it is told: of a slip its numbers
abbrev pub told : Answer → Told
told (answer.Count r) = told-as.Count r
told (answer.Slip (Ok slip)) = told-as.Slip (Ok slip.entered)
told (answer.Slip (Err e)) = told-as.Slip (Err e)
told (answer.Code r) = told-as.Code r
told (answer.Record r) = told-as.Record r

-- the desk: a monitor, the slips that wait, and what happened there, the latest event first
pub record Desk : Type 0 where
  pub monitor : MonitorState
  pub tray : List WaitingValue
  pub happened : List Event

-- a monitor comes to an empty desk
abbrev pub opened_with : MonitorState → Desk
opened_with s = record { monitor = s; tray = []; happened = [] }

-- a call of the monitor: what it promises happened, its answer is told, and its slip waits under
-- the name
pub record MakesCall (m : Meaning) (w : Desk) (name : List ℕ) (c : CallValue) (a : Told) (v : Desk) : Type 0 where
  pub answer : Answer
  pub happens : Happens m w.monitor (event c answer) v.monitor
  pub tells : a ≡ told answer
  pub tray_now : v.tray ≡ with_slip w.tray name answer
  pub noted : v.happened ≡ event c answer ∷ w.happened

-- a slip that waits is taken off the tray and countersigned; where none does, the desk says so and
-- nothing happens
abbrev pub CountersignsSlip : Meaning → Desk → List ℕ → ℕ → List ℕ → Option SlipNumbers → Told → Desk → Type 0
CountersignsSlip m w name user word None a v = (a ≡ told-as.NoSuchSlip) × (v ≡ w)
CountersignsSlip m w name user word (Some slip) a v =
    MakesCall m (record w { tray = without_slip w.tray name }) name (calls.CountersignCall user word slip) a v

-- a slip that waits is taken off the tray, and its numbers are handed out; where none does, the
-- desk says so
abbrev pub WithdrawsSlip : Desk → List ℕ → Option SlipNumbers → Told → Desk → Type 0
WithdrawsSlip w name None a v = (a ≡ told-as.NoSuchSlip) × (v ≡ w)
WithdrawsSlip w name (Some slip) a v = (a ≡ told-as.Withdrawn slip) × (v ≡ record w { tray = without_slip w.tray name })

-- one request at the desk, and what is told: w before, v after
abbrev pub Serves : Meaning → Desk → RequestValue → Told → Desk → Type 0
Serves m w (EnterRequest name user word note) a v = MakesCall m w name (calls.EnterCall user word note) a v
Serves m w (CountersignRequest name user word) a v = CountersignsSlip m w name user word (slip_waiting w.tray name) a v
Serves m w (WithdrawRequest name) a v = WithdrawsSlip w name (slip_waiting w.tray name) a v
Serves m w (PlainRequest c) a v = MakesCall m w [] (calls.PlainCall c) a v

-- what a call, and a request, make of a monitor and of the slips that wait, whatever happened
-- before
abbrev pub From : MonitorState → List WaitingSlip → MonitorState → List WaitingSlip → (Desk → Desk → Type 0) → Type 0
From s ws t ws' P =
    (es : List Event) → (fs : List Event) × P (record { monitor = s; tray = waiting_values ws; happened = es }) (record { monitor = t; tray = waiting_values ws'; happened = fs })

abbrev pub MakesCallOn : Meaning → MonitorState → List WaitingSlip → List ℕ → CallValue → Told → MonitorState → List WaitingSlip → Type 0
MakesCallOn m s ws name c a t ws' = From s ws t ws' (λ w v. MakesCall m w name c a v)

abbrev pub ServesOn : Meaning → MonitorState → List WaitingSlip → RequestValue → Told → MonitorState → List WaitingSlip → Type 0
ServesOn m s ws q a t ws' = From s ws t ws' (λ w v. Serves m w q a v)

-- requests one after another, each with what was told
pub data Session (m : Meaning) (w : Desk) : List RequestValue → List Told → Desk → Type 0 where
  none_served : Session m w [] [] w
  one_served : {qs : List RequestValue} {rs : List Told} {u v : Desk} (q : RequestValue) (a : Told)
      → Session m w qs rs u → Serves m u q a v → Session m w (qs ++ (q ∷ [])) (rs ++ (a ∷ [])) v

-- what serving promises: s is the monitor before, t after. What was asked was done in its order,
-- and this was told; and whatever led to the monitor before, what happened extends it to the
-- monitor after, and the law holds of that at every moment
pub record Served (m : Meaning) (s : MonitorState) (requests : List RequestValue) (answers : List Told) (t : MonitorState) : Type 0 where
  pub desk : Desk
  pub session : Session m (opened_with s) requests answers desk
  pub after : desk.monitor ≡ t
  pub law : Extends m s desk.happened t
