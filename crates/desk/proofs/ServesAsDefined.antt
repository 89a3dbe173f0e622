-- Requests at the desk: each moves the monitor, the tray and what happened as its definition says.
use Rattle.std.proofs.Common.{◌≡◌, ℕ, List, ◌∷◌, ◌++◌, [], Some, None, refl, sym, ap, subst}
use Rattle.books.specs.Meaning.{Meaning, StepTests, StepGivesCodes}
use Rattle.monitor.specs.declared.slip_numbers.SlipNumbers.{SlipNumbers}
use Rattle.monitor.specs.MonitorState.{MonitorState}
use Rattle.histories.specs.declared.answer.Answer.{Answer}
use Rattle.calls.specs.PlainValue.{PlainValue}
use Rattle.histories.specs.Events.{CallValue, CountersignCall as CalledCountersigns, Event, event, PlainlyPromised, Happens, still, more, onto}
use Rattle.histories.specs.Law.{LawHolds, Extends}
use Rattle.desk.specs.declared.told.Told.{Told}
use Rattle.desk.specs.declared.told.Told.TheVariants as told-as
use Rattle.desk.specs.declared.tray.WaitingSlip.{WaitingSlip}
use Rattle.desk.specs.Serving.{RequestValue, waiting_value, waiting_values, told, with_slip, slip_waiting, without_slip, Desk, MakesCall, CountersignsSlip, WithdrawsSlip, MakesCallOn, ServesOn, CountersignRequest, WithdrawRequest}

-- one event more, on whatever history led to the monitor
pub extended : (law : LawHolds) (m : Meaning) → StepTests m → StepGivesCodes m → (s t : MonitorState) (e : Event) → Happens m s e t → Extends m s (e ∷ []) t
extended law m tests gives s t e k = record { run = more still k; law = λ es h. law m tests gives (e ∷ es) t (onto h (more still k)) }

-- a call that happened, and its slip, which was kept on the tray
pub call_made :
    (m : Meaning) (s t : MonitorState) (ws us : List WaitingSlip) (name : List ℕ) (c : CallValue) (a : Answer) (b : Told)
    → Happens m s (event c a) t → b ≡ told a → waiting_values us ≡ with_slip (waiting_values ws) name a → MakesCallOn m s ws name c b t us
call_made m s t ws us name c a b h e l es = (event c a ∷ es, record { answer = a; happens = h; tells = e; tray_now = l; noted = refl })

module _ (m : Meaning) (s : MonitorState) (ws us : List WaitingSlip) (name : List ℕ) where
  -- a slip that waits, taken off the tray and countersigned
  pub countersigns :
      (user : ℕ) (word : List ℕ) (slip : SlipNumbers) (t : MonitorState) (vs : List WaitingSlip) (b : Told)
      → Some slip ≡ slip_waiting (waiting_values ws) name → waiting_values us ≡ without_slip (waiting_values ws) name
      → MakesCallOn m s us name (CalledCountersigns user word slip) b t vs → ServesOn m s ws (CountersignRequest name user word) b t vs
  countersigns user word slip t vs b w e k es =
      let n = k es in
      let before : Desk = record { monitor = s; tray = waiting_values ws; happened = es } in
      let after : Desk = record { monitor = t; tray = waiting_values vs; happened = n.0 } in
      let moved = subst (λ z. MakesCall m (record before { tray = z }) name (CalledCountersigns user word slip) b after) e n.1 in
      (n.0, subst (λ o. CountersignsSlip m before name user word o b after) w moved)

  -- or withdrawn
  pub withdraws :
      (slip : SlipNumbers) → Some slip ≡ slip_waiting (waiting_values ws) name → waiting_values us ≡ without_slip (waiting_values ws) name
      → ServesOn m s ws (WithdrawRequest name) (told-as.Withdrawn slip) s us
  withdraws slip w e es =
      let before : Desk = record { monitor = s; tray = waiting_values ws; happened = es } in
      let after : Desk = record { monitor = s; tray = waiting_values us; happened = es } in
      (es, subst (λ o. WithdrawsSlip before name o (told-as.Withdrawn slip) after) w (refl, ap (λ z. record before { tray = z }) e))

  -- no slip waits
  pub countersigns_none :
      (user : ℕ) (word : List ℕ) → None ≡ slip_waiting (waiting_values ws) name → waiting_values us ≡ waiting_values ws
      → ServesOn m s ws (CountersignRequest name user word) told-as.NoSuchSlip s us
  countersigns_none user word w e es =
      let before : Desk = record { monitor = s; tray = waiting_values ws; happened = es } in
      let after : Desk = record { monitor = s; tray = waiting_values us; happened = es } in
      (es, subst (λ o. CountersignsSlip m before name user word o told-as.NoSuchSlip after) w (refl, ap (λ z. record before { tray = z }) e))

  pub withdraws_none :
      None ≡ slip_waiting (waiting_values ws) name → waiting_values us ≡ waiting_values ws → ServesOn m s ws (WithdrawRequest name) told-as.NoSuchSlip s us
  withdraws_none w e es =
      let before : Desk = record { monitor = s; tray = waiting_values ws; happened = es } in
      let after : Desk = record { monitor = s; tray = waiting_values us; happened = es } in
      (es, subst (λ o. WithdrawsSlip before name o told-as.NoSuchSlip after) w (refl, ap (λ z. record before { tray = z }) e))

-- a slip that is kept behind the others
pub value_behind : (ws : List WaitingSlip) (w : WaitingSlip) → waiting_values (ws ++ (w ∷ [])) ≡ waiting_values ws ++ (waiting_value w ∷ [])
value_behind [] w = refl
value_behind (v ∷ ws) w = ap (λ z. waiting_value v ∷ z) (value_behind ws w)

-- a call, and a request, by another name
pub as_called :
    (m : Meaning) (s t : MonitorState) (c d : PlainValue) (a : Answer) → c ≡ d → PlainlyPromised m s d a t → PlainlyPromised m s c a t
as_called m s t c d a e h = subst (λ z. PlainlyPromised m s z a t) (sym e) h

pub as_asked :
    (m : Meaning) (s t : MonitorState) (ws us : List WaitingSlip) (q r : RequestValue) (b : Told) → q ≡ r → ServesOn m s ws r b t us → ServesOn m s ws q b t us
as_asked m s t ws us q r b e h = subst (λ z. ServesOn m s ws z b t us) (sym e) h
