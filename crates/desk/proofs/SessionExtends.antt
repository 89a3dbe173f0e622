-- Requests one after another, and the history that they make.
use Rattle.std.proofs.Common.{◌≡◌, ℕ, List, [], ◌∷◌, ◌++◌, map, Some, None, Option, ◌<◌, length, refl, sym, ap, subst, ◌∙◌, arith}
use Rattle.std.proofs.lemmas.List.{map-append, append-nil, length-append, nil_from_length}
use Rattle.books.specs.Meaning.{Meaning, StepTests, StepGivesCodes}
use Rattle.monitor.specs.declared.slip_numbers.SlipNumbers.{SlipNumbers}
use Rattle.monitor.specs.MonitorState.{MonitorState}
use Rattle.histories.specs.Events.{CallValue, Event, Run, still, more, onto}
use Rattle.histories.specs.Law.{LawHolds}
use Rattle.desk.specs.declared.request.Request.{Request}
use Rattle.desk.specs.declared.told.Told.{Told}
use Rattle.desk.specs.declared.tray.WaitingSlip.{WaitingSlip}
use Rattle.desk.specs.Serving.{RequestValue, EnterRequest, CountersignRequest, WithdrawRequest, PlainRequest, request_value, waiting_values, WaitingValue, Desk, opened_with, MakesCall, Serves, CountersignsSlip, WithdrawsSlip, ServesOn, Session, none_served, one_served, Served}

module _ (m : Meaning) (w : Desk) where
  -- nothing was asked yet
  pub begins : (rs : List Told) (ts : List WaitingValue) → rs ≡ [] → ts ≡ w.tray → Session m w [] rs (record { monitor = w.monitor; tray = ts; happened = w.happened })
  begins rs ts p q =
      subst (λ z. Session m w [] z (record { monitor = w.monitor; tray = ts; happened = w.happened })) (sym p)
      (subst (λ z. Session m w [] [] (record { monitor = w.monitor; tray = z; happened = w.happened })) (sym q) none_served)

  -- one request more
  pub goes_on :
      (ys : List Request) (q : Request) (as' bs : List Told) (a : Told) (s t : MonitorState) (ts us : List WaitingSlip)
      → (es : List Event) × Session m w (map request_value ys) as' (record { monitor = s; tray = waiting_values ts; happened = es })
      → ServesOn m s ts (request_value q) a t us → bs ≡ as' ++ (a ∷ [])
      → (fs : List Event) × Session m w (map request_value (ys ++ (q ∷ []))) bs (record { monitor = t; tray = waiting_values us; happened = fs })
  goes_on ys q as' bs a s t ts us h k e =
      let next = k h.0 in (
        next.0,
        subst (λ z. Session m w z bs (record { monitor = t; tray = waiting_values us; happened = next.0 })) (sym (map-append request_value ys (q ∷ [])))
            (subst (λ z. Session m w (map request_value ys ++ (request_value q ∷ [])) z (record { monitor = t; tray = waiting_values us; happened = next.0 })) (sym e)
            (one_served (request_value q) a h.1 next.1)),
      )

module _ (m : Meaning) (s : MonitorState) (u v : Desk) (a : Told) (r : Run m s u.happened u.monitor) where
  -- a call of the monitor goes on with the run
  moves_on : (tray : List WaitingValue) (name : List ℕ) (c : CallValue) → MakesCall m (record u { tray = tray }) name c a v → Run m s v.happened v.monitor
  moves_on tray name c k = subst (λ z. Run m s z v.monitor) (sym k.noted) (more r k.happens)

  -- where nothing happened it is the same
  stands_still : (tray : List WaitingValue) → v ≡ record u { tray = tray } → Run m s v.happened v.monitor
  stands_still tray e = subst (λ (z : Desk). Run m s z.happened z.monitor) (sym e) r

  countersigns_on : (name : List ℕ) (user : ℕ) (word : List ℕ) (o : Option SlipNumbers) → CountersignsSlip m u name user word o a v → Run m s v.happened v.monitor
  countersigns_on name user word None k = stands_still u.tray k.1
  countersigns_on name user word (Some slip) k = moves_on _ _ _ k

  withdraws_on : (name : List ℕ) (o : Option SlipNumbers) → WithdrawsSlip u name o a v → Run m s v.happened v.monitor
  withdraws_on name None k = stands_still u.tray k.1
  withdraws_on name (Some slip) k = stands_still _ k.1

  serves_on : (q : RequestValue) → Serves m u q a v → Run m s v.happened v.monitor
  serves_on (EnterRequest name user word note) k = moves_on u.tray _ _ k
  serves_on (CountersignRequest name user word) k = countersigns_on name user word _ k
  serves_on (WithdrawRequest name) k = withdraws_on name _ k
  serves_on (PlainRequest c) k = moves_on u.tray _ _ k

-- a session is a run from the monitor that came to the desk
pub runs : (m : Meaning) (s : MonitorState) (qs : List RequestValue) (rs : List Told) (v : Desk) → Session m (opened_with s) qs rs v → Run m s v.happened v.monitor
runs m s qs rs v none_served = still
runs m s qs rs v (one_served {qs = ds} {rs = ss} {u = u} q a k l) = serves_on m s u v a (runs m s ds ss u k) q l

-- and the law holds of it
pub served :
    (law : LawHolds) (m : Meaning) → StepTests m → StepGivesCodes m → (s t : MonitorState) (ys qs rest : List Request) (rs : List Told) (ts : List WaitingValue)
    → ys ++ rest ≡ qs → rest ≡ []
    → (es : List Event) × Session m (opened_with s) (map request_value ys) rs (record { monitor = t; tray = ts; happened = es })
    → Served m s (map request_value qs) rs t
served law m tests gives s t ys qs rest rs ts p q k =
    let all : ys ≡ qs = sym (append-nil ys) ∙ ap (λ z. ys ++ z) (sym q) ∙ p in
    let session = subst (λ (z : List Request). Session m (opened_with s) (map request_value z) rs (record { monitor = t; tray = ts; happened = k.0 })) all k.1 in
    let run : Run m s k.0 t = runs m s (map request_value qs) rs _ session in
    record {
      desk = record { monitor = t; tray = ts; happened = k.0 };
      session = session;
      after = refl;
      law = record { run = run; law = λ es h. law m tests gives (k.0 ++ es) t (onto h run) };
    }

-- where all were made, none is left
pub none_left : {X : Type 0} (ys rest all : List X) → ys ++ rest ≡ all → length ys ≡ length all → rest ≡ []
none_left ys rest all e l = nil_from_length rest (omega (arith, length-append ys rest, ap length e, l))

-- a request that is still to be made is one of all
pub one_more : {X : Type 0} (ys rest later all : List X) (x : X) → ys ++ rest ≡ all → rest ≡ x ∷ later → length ys < length all
one_more ys rest later all x e p = omega (arith, length-append ys rest, ap length e, ap length p)
