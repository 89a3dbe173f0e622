-- An update of an open monitor that has room for a record more: what it leaves.
use Rattle.std.proofs.Common.{◌≡◌, ℕ, ◌+◌, ◌<◌, ◌≤◌, List, Ok, Err, sym, ap, ◌∙◌, refl, subst}
use Rattle.std.proofs.Common.{arith}
use Rattle.refusals.specs.declared.reason.Reason.TheVariants.{PowerLost}
use Rattle.refusals.specs.declared.refusal.Refusal.{Refusal}
use Rattle.changes.specs.declared.home.Home.{Home}
use Rattle.changes.specs.Homes.{last}
use Rattle.journals.specs.declared.cut_place.CutPlace.{CutPlace}
use Rattle.journals.specs.declared.cut_place.CutPlace.TheVariants.{Staging}
use Rattle.journals.specs.declared.faults.ChangeFault.{ChangeFault}
use Rattle.journals.specs.declared.faults.ChangeFault.TheVariants.{Off, Beyond, Cut}
use Rattle.journals.specs.JournalState.{JournalState, size}
use Rattle.journals.specs.Reported.{place_number}
use Rattle.journals.specs.Outcomes.{home_with, DoneChange, CutChange, Changes}
use Rattle.records.specs.declared.record.Record.{Record}
use Rattle.layout.specs.declared.head.Head.{Head}
use Rattle.applying.specs.BookState.{BookState}
use Rattle.image.specs.Home.{count_on}
use Rattle.image.specs.Laws.{size_low, size_high}
use Rattle.image.specs.Layout.{record_block, lawful_size, room}
use Rattle.updates.specs.Laws.{updated_count}
use Rattle.updates.specs.Update.{update_of}
use Rattle.monitor.specs.declared.stage.Stage.{Stage}
use Rattle.monitor.specs.declared.stage.Stage.TheVariants.{Open, Dark}
use Rattle.monitor.specs.Calls.{Acknowledged, LostPower}
use Rattle.monitor.specs.MonitorState.{MonitorState, monitor_with, home_of as home, room_of, Steady}
use Rattle.monitor.proofs.TestsPassed.{refusal_is}

-- the place that a fault names
abbrev place_in : ChangeFault → CutPlace
place_in Off = Staging
place_in Beyond = Staging
place_in (Cut place) = place

-- a steady drive that was changed, and has room for the records that it counts then, is steady
made_steady :
    (homes : List Home) (d e : JournalState) → Steady d → DoneChange homes d e
    → count_on (home_with homes d) ≤ room (size d) → Steady e
made_steady homes d e s m l =
    record {
      ready = m.ready;
      fits = ap lawful_size m.same_size ∙ s.fits;
      found_room = omega (arith, ap count_on m.home_now, m.same_size, l);
    }

-- the monitor s, whose journal's state is d, and the update of a record x
module _
    (s : MonitorState) (st : Stage) (d : JournalState) (is : monitor_with st d ≡ s)
    (is_open : s.stage ≡ Open) (keeps : st ≡ Open → Steady d)
    (k : Head) (x : Record) (a : BookState) (found : k.count < room_of s)
    (homes : List Home) (named : homes ≡ update_of k x a)
    (ends : last homes ≡ record_block (k.count + 1))
  where
    opened : st ≡ Open
    opened = ap (λ (m : MonitorState). m.stage) is ∙ is_open

    steady : Steady d
    steady = keeps opened

    had_room : k.count < room (size d)
    had_room = subst (λ (m : MonitorState). k.count < room_of m) (sym is) found

    within : last homes < size d
    within = omega (arith, ends, had_room)

    done : (e : JournalState) → Changes d homes (Ok tt) e → DoneChange (update_of k x a) d e
    done e c = subst (λ z. DoneChange z d e) named (c.met steady.ready.on within)

    pub leaves_steady : (e : JournalState) → Changes d homes (Ok tt) e → Steady e
    leaves_steady e c =
        let high = size_high (size d) steady.fits in
        let low = size_low (size d) steady.fits in
        let counts = updated_count k x a d (omega (arith, had_room)) (omega arith) in
        made_steady (update_of k x a) d e steady (done e c) (omega (arith, counts, had_room))

    pub acknowledged :
        (e : JournalState) (n : ℕ) → Changes d homes (Ok tt) e → n ≡ count_on (home s) + 1
        → Acknowledged (update_of k x a) s n (monitor_with st e)
    acknowledged e n c counted =
        record {
          count = counted;
          stage = opened;
          made = subst (λ (m : MonitorState). DoneChange (update_of k x a) m.disk e) is (done e c);
        }

    pub lost :
        (e : JournalState) (place : CutPlace) (r : Refusal) → Changes d homes (Err (Cut place)) e
        → r.reason ≡ PowerLost → r.place ≡ place_number place
        → LostPower (update_of k x a) s r (monitor_with Dark e)
    lost e place r c why at =
        let met = c.met steady.ready.on within in
        let same : met.0 ≡ place = ap place_in (sym met.1) in
        let cut : CutChange place homes d e = subst (λ p. CutChange p homes d e) same met.2 in
        let renamed = subst (λ z. CutChange place z d e) named cut in
        record {
          place = place;
          answer = refusal_is r PowerLost (place_number place) why at;
          stage = refl;
          cut = subst (λ (m : MonitorState). CutChange place (update_of k x a) m.disk e) is renamed;
        }
