-- Looks at records, one after another: they change nothing, and show the records of the tally.
use Rattle.std.proofs.Common.{◌≡◌, ℕ, ◌+◌, ◌<◌, ◌≤◌, zero, suc, Bool, true, false, nat_le, List, [], ◌∷◌, ◌++◌, map, length, take, Some, None, Ok, Option, IfSome, refl, sym, ap, subst, ◌∙◌, arith}
use Rattle.std.specs.List.{list_all, range_with_len}
use Rattle.std.proofs.lemmas.List.{map-append}
use Rattle.std.proofs.lemmas.List.Folds.{list_all-append}
use Rattle.std.proofs.lemmas.Bool.{and_parts, le-leb, lt-leb}
use Rattle.books.specs.Meaning.{Meaning}
use Rattle.journals.specs.JournalState.{JournalState}
use Rattle.records.specs.declared.record.Record.{Record}
use Rattle.image.specs.Home.{count_on, record_on}
use Rattle.monitor.specs.declared.stage.Stage.{Stage}
use Rattle.monitor.specs.declared.stage.Stage.TheVariants.{Shut, Open}
use Rattle.monitor.specs.MonitorState.{MonitorState, monitor_with, home_of}
use Rattle.monitor.specs.Asking.{record_found}
use Rattle.histories.specs.Events as hist
use Rattle.histories.specs.Events.{Event, History}
use Rattle.histories.specs.Law.{Agrees, Law}
use Rattle.script.specs.Reading.{SetupValue}
use Rattle.histories.specs.Tally.{Tally, tally}
use Rattle.calls.specs.PlainValue.{FormatCall, AttachCall, CertifyCall, StrikeCall, ItemCall, RecordCall}
use Rattle.calls.specs.declared.plain.Plain.TheVariants as plain
use Rattle.desk.specs.declared.request.Request.TheVariants as request
use Rattle.desk.specs.declared.told.Told.{Told}
use Rattle.desk.specs.declared.told.Told.TheVariants as told
use Rattle.desk.specs.Serving.{told as told_as, RequestValue, request_value, EnterRequest, CountersignRequest, WithdrawRequest, PlainRequest, Desk, opened_with, Session, none_served, one_served, Serves}
use Rattle.day.specs.declared.start.Start.{Start}
use Rattle.day.specs.DayRun.{shut_over, every_record, looked_at, DayRan, day_history, events_with}
use Rattle.day.specs.Outcome.{record_seen as record_of, records_seen, TellsTally}

is_look : RequestValue → Bool
is_look (PlainRequest (RecordCall k)) = true
is_look _ = false

-- what a look shows
look_at : MonitorState → RequestValue → Told
look_at s (PlainRequest (RecordCall k)) = told.Record (record_found s k)
look_at s _ = told.NoSuchSlip

shut_is_open : ◌≡◌ {A = Stage} Shut Open → ⊥
shut_is_open e = let z : ◌≡◌ {A = ℕ} 0 1 = cc in omega arith

never : {X : Type 0} → false ≡ true → X
never e = absurd cc

module _ (m : Meaning) where
  one_look :
      (u v : Desk) (c : RequestValue) (a : Told) → is_look c ≡ true → Serves m u c a v
      → (a ≡ look_at u.monitor c) × (v.monitor ≡ u.monitor)
  unfolding is_look look_at
  one_look u v (PlainRequest (RecordCall k)) a e h = (h.tells ∙ ap told_as h.happens.0, h.happens.1)
  one_look u v (PlainRequest (FormatCall x y z)) a e h = never e
  one_look u v (PlainRequest AttachCall) a e h = never e
  one_look u v (PlainRequest (CertifyCall x y)) a e h = never e
  one_look u v (PlainRequest (StrikeCall x y)) a e h = never e
  one_look u v (PlainRequest (ItemCall x)) a e h = never e
  one_look u v (EnterRequest x y z w) a e h = never e
  one_look u v (CountersignRequest x y z) a e h = never e
  one_look u v (WithdrawRequest x) a e h = never e

  looked :
      (w : Desk) (cs : List RequestValue) (rs : List Told) (v : Desk) → Session m w cs rs v → list_all is_look cs ≡ true
      → (rs ≡ map (look_at w.monitor) cs) × (v.monitor ≡ w.monitor)
  looked w cs rs v none_served e = (refl, refl)
  looked w cs rs v (one_served {qs = ds} {rs = ss} {u = u} c a h k) e =
      let split = and_parts (list_all is_look ds) (list_all is_look (c ∷ [])) (sym (list_all-append is_look ds (c ∷ [])) ∙ e) in
      let before = looked w ds ss u h split.0 in
      let last = and_parts (is_look c) true split.1 in
      let now = one_look u v c a last.0 k in
      let shown : a ≡ look_at w.monitor c = now.0 ∙ ap (λ z. look_at z c) before.1 in
      (ap (λ z. z ++ (a ∷ [])) before.0 ∙ ap (λ z. map (look_at w.monitor) ds ++ (z ∷ [])) shown ∙ sym (map-append (look_at w.monitor) ds (c ∷ [])), now.1 ∙ before.1)

-- a look more at the front
shows_it : (a : Told) (rest : List Told) (x : Record) (xs : List Record) → record_of a ≡ Some x → records_seen rest ≡ xs → records_seen (a ∷ rest) ≡ x ∷ xs
shows_it a rest x xs p q = rw (p, q) refl

shows_none : (a : Told) (rest : List Told) (xs : List Record) → record_of a ≡ None → records_seen rest ≡ xs → records_seen (a ∷ rest) ≡ xs
shows_none a rest xs p q = rw (p, q) refl

-- looks as they are asked for
all_looks : (n : ℕ) → list_all is_look (every_record n) ≡ true
unfolding is_look
all_looks n = looks_all 1 n where
  looks_all : (i n : ℕ) → list_all is_look (map request_value (map (λ k. request.Plain (plain.Record k)) (range_with_len i n))) ≡ true
  looks_all i zero = refl
  looks_all i (suc n) = looks_all (i + 1) n

each_asked : (i n : ℕ) → map request_value (map (λ k. request.Plain (plain.Record k)) (range_with_len i n)) ≡ map (λ k. PlainRequest (RecordCall k)) (range_with_len i n)
each_asked i zero = refl
each_asked i (suc n) = ap (λ z. PlainRequest (RecordCall i) ∷ z) (each_asked (i + 1) n)

-- what an open monitor shows
module _ (d : JournalState) where
  abbrev opened : MonitorState
  opened = monitor_with Open d

  there :
      (k : ℕ) (x : Record) → nat_le 1 k ≡ true → nat_le k (count_on (home_of opened)) ≡ true → record_on (home_of opened) k ≡ Some x
      → record_found opened k ≡ Ok x
  there k x p q e = rw (p, q, e) refl

  -- past the count there is none
  not_there : (k : ℕ) → nat_le k (count_on (home_of opened)) ≡ false → (b : Bool) → nat_le 1 k ≡ b → record_of (told.Record (record_found opened k)) ≡ None
  not_there k q true p = rw (p, q) refl
  not_there k q false p = rw p refl

  -- so many looks, from number i on
  looks_from : ℕ → ℕ → List Told
  looks_from i n = map (look_at opened) (map (λ k. PlainRequest (RecordCall k)) (range_with_len i n))

  beyond : (n i : ℕ) → count_on (home_of opened) < i → records_seen (looks_from i n) ≡ []
  unfolding look_at looks_from
  beyond zero i high = refl
  beyond (suc n) i high = shows_none (told.Record (record_found opened i)) (looks_from (i + 1) n) [] (not_there i (lt-leb i _ high) _ refl) (beyond n (i + 1) (omega arith))

  -- the records from number i on, of which those up to the count are xs
  in_order :
      (n i j : ℕ) (xs : List Record) → 1 ≤ i → i + j ≡ count_on (home_of opened) + 1
      → map (record_on (home_of opened)) (range_with_len i j) ≡ map Some xs
      → records_seen (looks_from i n) ≡ take n xs
  unfolding look_at looks_from
  in_order zero i j xs low e h = refl
  in_order (suc n) i zero [] low e h = beyond (suc n) i (omega arith)
  in_order (suc n) i zero (x ∷ xs) low e h = absurd cc
  in_order (suc n) i (suc j) [] low e h = absurd cc
  in_order (suc n) i (suc j) (x ∷ xs) low e h =
      let here : record_on (home_of opened) i ≡ Some x = cc in
      let later : map (record_on (home_of opened)) (range_with_len (i + 1) j) ≡ map Some xs = cc in
      let within : i ≤ count_on (home_of opened) = omega arith in
      shows_it (told.Record (record_found opened i)) (looks_from (i + 1) n) x (take n xs) (ap (λ z. record_of (told.Record z)) (there i x (le-leb 1 i low) (le-leb i _ within) here))
      (in_order n (i + 1) j xs (omega arith) (omega arith) later)

  -- of a tally that it agrees with
  told_by :
      (m : Meaning) (n : ℕ) (o : Option Tally) → IfSome o (λ t. Agrees m opened t.books)
      → IfSome o (λ t. records_seen (map (look_at opened) (every_record n)) ≡ take n t.books.records)
  unfolding looks_from
  told_by m n None k = tt
  told_by m n (Some t) k =
      ap (λ z. records_seen (map (look_at opened) z)) (each_asked 1 n)
      ∙ in_order n 1 (count_on (home_of opened)) t.books.records (omega arith) (omega arith) k.records

-- at the end of a history an open monitor agrees with the tally, by the law of its last moment
agrees_at_end :
    (m : Meaning) (es : List Event) (s : MonitorState) (h : History m es s) → Law m h → s.stage ≡ Open → IfSome (tally m es) (λ t. Agrees m s t.books)
agrees_at_end m _ _ hist.begun k o = absurd (shut_is_open o)
agrees_at_end m _ _ (hist.then h d) k o = k.1.agrees o
agrees_at_end m _ _ (hist.again h t) k o = absurd (shut_is_open o)

pub tells_tally :
    (m : Meaning) (start : Start) (bs : List (List ℕ)) (g : SetupValue) (requests : List RequestValue) (firsts answers looks : List Told) (end : MonitorState)
    → (k : DayRan m start bs g requests firsts answers looks end) → (es : List Event) → History m es (shut_over bs) → end.stage ≡ Open
    → TellsTally m (events_with k es) (looked_at (length bs)) looks
tells_tally m start bs g requests firsts answers looks end k es before o =
    let n : ℕ = looked_at (length bs) in
    let all = looked m (opened_with k.closed) (every_record n) looks k.looked.desk k.looked.session (all_looks n) in
    let now : end ≡ monitor_with Open end.disk = ap (λ z. monitor_with z end.disk) o in
    let same : k.closed ≡ monitor_with Open end.disk = sym all.1 ∙ k.looked.after ∙ now in
    let shown : looks ≡ map (look_at (monitor_with Open end.disk)) (every_record n) = all.0 ∙ ap (λ (z : MonitorState). map (look_at z) (every_record n)) same in
    let agrees = subst (λ (z : MonitorState). IfSome (tally m (events_with k es)) (λ t. Agrees m z t.books)) now
    (agrees_at_end m (events_with k es) end (day_history before k.starts.law.run k.takes_over k.day.law.run k.looked.law.run) (k.law es before) o) in
    subst (λ z. TellsTally m (events_with k es) n z) (sym shown) (told_by end.disk m n (tally m (events_with k es)) agrees)
