-- What holds of every monitor that a history leads to, against the tally: when open, its drive
-- shows the books; when shut or dark, whatever may stand on its drive shows the books, or the books
-- with the change in doubt.
use Rattle.std.proofs.Common.{◌≡◌, ℕ, ◌+◌, true, eqb, ◌⊎◌, List, Some, None, Ok, Err, Option, Result, refl, sym, ap, ◌∙◌, subst, inl, inr}
use Rattle.std.proofs.lemmas.Bool.{cond-false}
use Rattle.refusals.specs.declared.refusal.Refusal.{Refusal}
use Rattle.refusals.specs.Table.{reason_number}
use Rattle.books.specs.Meaning.{Meaning, StepGivesCodes}
use Rattle.changes.specs.declared.home.Home.{Home}
use Rattle.journals.specs.declared.cut_place.CutPlace.{CutPlace}
use Rattle.journals.specs.declared.cut_place.CutPlace.TheVariants as journal
use Rattle.journals.specs.Outcomes.{home_with, CutChange}
use Rattle.journals.specs.JournalState.{JournalState, size, home_of, Stands, Finishable, Ready}
use Rattle.journals.specs.Laws.{ready_finishable, ready_stands}
use Rattle.records.specs.declared.record.Record.{Record}
use Rattle.applying.specs.BookState.{BookState}
use Rattle.applying.specs.Applied.{applied}
use Rattle.image.specs.Home.{head_on}
use Rattle.image.specs.Layout.{lawful_size, room}
use Rattle.monitor.specs.declared.stage.Stage.{Stage}
use Rattle.monitor.specs.declared.stage.Stage.TheVariants.{Shut, Open, Dark}
use Rattle.monitor.specs.Calls.{lost_in, Acknowledged, LostPower, MakesChange, ChangesOrRefuses}
use Rattle.updates.specs.Update.{update_of}
use Rattle.monitor.specs.MonitorState.{MonitorState, monitor_with, room_of, Refuses}
use Rattle.histories.specs.Law.{TookEffect}
use Rattle.histories.specs.Tally.{Books, Tally, no_doubt, in_doubt, with_change, with_effect, by_answer}
use Rattle.histories.proofs.WritableBooks.{Writable, Made, Typed, writable_made}
use Rattle.histories.proofs.NoFalsePowerLoss.{NotLost, Clean}
use Rattle.histories.proofs.HomeShowsTally.{Shown, shows_count}

-- home blocks show the books, or the books with the change in doubt
abbrev pub MayShow : Meaning → ℕ → Books → Option Record → List (List ℕ) → Type 0
MayShow m most b None h = Shown m b h
MayShow m most b (Some x) h = Shown m b h ⊎ ((u : BookState) × Made m most b x u × Shown m (with_effect b x (Some u)) h)

-- a drive without a monitor at work
pub record Waiting (m : Meaning) (b : Books) (doubt : Option Record) (d : JournalState) : Type 0 where
  pub finishable : Finishable d
  pub shows : (h : List (List ℕ)) → Stands d h → MayShow m (room (size d)) b doubt h

-- a drive under an open monitor
pub record Working (m : Meaning) (b : Books) (d : JournalState) : Type 0 where
  pub ready : Ready d
  pub shows : Shown m b (home_of d)

pub record AtWork (m : Meaning) (t : Tally) (d : JournalState) : Type 0 where
  pub sure : t.doubt ≡ None
  pub working : Working m t.books d

abbrev pub At : Meaning → Tally → Stage → JournalState → Type 0
At m t Shut d = Waiting m t.books t.doubt d
At m t Open d = AtWork m t d
At m t Dark d = Waiting m t.books t.doubt d

pub record Inv (m : Meaning) (t : Tally) (s : MonitorState) : Type 0 where
  pub fits : lawful_size (size s.disk) ≡ true
  pub writable : Writable m (room_of s) t.books
  pub at : At m t s.stage s.disk

-- an open monitor's drive could be left to itself
pub working_waits : (m : Meaning) (b : Books) (d : JournalState) → Working m b d → Waiting m b None d
working_waits m b d w =
    record {
      finishable = ready_finishable d w.ready;
      shows = λ h s. subst (λ g. Shown m b g) (sym (ready_stands d w.ready h s)) w.shows;
    }

pub waits : (m : Meaning) (t : Tally) (st : Stage) (d : JournalState) → At m t st d → Waiting m t.books t.doubt d
waits m t Shut d a = a
waits m t Open d a = subst (λ o. Waiting m t.books o d) (sym a.sure) (working_waits m t.books d a.working)
waits m t Dark d a = a

-- the invariant at a stage and a drive as large
pub inv_at : (m : Meaning) (t : Tally) (d : JournalState) (u : MonitorState) (st : Stage) → lawful_size (size d) ≡ true → size u.disk ≡ size d → Writable m (room (size d)) t.books → u.stage ≡ st → At m t st u.disk → Inv m t u
inv_at m t d u st f e g p a =
    record {
      fits = ap lawful_size e ∙ f;
      writable = subst (λ n. Writable m (room n) t.books) (sym e) g;
      at = subst (λ z. At m t z u.disk) (sym p) a;
    }

-- a refusal that is not for lost power changes nothing in the tally
pub not_lost : (m : Meaning) (t : Tally) (x : Record) (e : Refusal) → NotLost e → by_answer m t x (Err e) ≡ t
not_lost m t x e n = cond-false (eqb (reason_number e.reason) 7) _ _ n

-- a call that was refused, with a refusal that is nothing to the tally
pub refused_keeps :
    (m : Meaning) (t : Tally) (x : Record) (s u : MonitorState) (e : Refusal) (r : Result ℕ Refusal) → by_answer m t x (Err e) ≡ t
    → Refuses s e r u → Inv m t s → Inv m (by_answer m t x r) u × TookEffect m t.books x r
refused_keeps m t x s u e r nothing f i =
    let same : by_answer m t x r ≡ t = ap (by_answer m t x) f.answer ∙ nothing in (
      subst (λ (z : MonitorState). Inv m (by_answer m t x r) z) (sym f.same) (subst (λ (z : Tally). Inv m z s) (sym same) i),
      subst (λ (z : Result ℕ Refusal). TookEffect m t.books x z) (sym f.answer) tt,
    )

-- what the test of a call that wants a change told, on an open monitor: no refusal for lost power;
-- and what is wanted is the change of the record that was applied
pub record Wants (m : Meaning) (b : Books) (d : JournalState) (x : Record) (w : Result (List Home) Refusal) : Type 0 where
  pub clean : Clean w
  pub records_applied : (p : List Home) → w ≡ Ok p → (u : BookState) × (applied m (room (size d)) b.state x ≡ Ok u) × (p ≡ update_of (head_on (home_of d)) x u) × Typed x

module _ (m : Meaning) (gives : StepGivesCodes m) (b : Books) (d : JournalState) (x : Record) (fits : lawful_size (size d) ≡ true) (g : Writable m (room (size d)) b) (k : Working m b d) where
  -- the change of a record that was applied, and what it leaves
  module _
      (u : BookState) (applies : Made m (room (size d)) b x u)
      (moves : Shown m (with_effect b x (Some u)) (home_with (update_of (head_on (home_of d)) x u) d))
    where
      abbrev q : List Home
      q = update_of (head_on (home_of d)) x u

      made_is : with_change m b x ≡ with_effect b x (Some u)
      made_is = ap (with_effect b x) applies.effects

      shown_next : (h : List (List ℕ)) → h ≡ home_with q d → Shown m (with_effect b x (Some u)) h
      shown_next h e = subst (λ z. Shown m (with_effect b x (Some u)) z) (sym e) moves

      shown_made : (h : List (List ℕ)) → h ≡ home_with q d → Shown m (with_change m b x) h
      shown_made h e = subst (λ z. Shown m z h) (sym made_is) (shown_next h e)

      writable_after : Writable m (room (size d)) (with_change m b x)
      writable_after = subst (λ z. Writable m (room (size d)) z) (sym made_is) applies.writable

      acknowledged : (n : ℕ) (t : MonitorState) → Acknowledged q (monitor_with Open d) n t → Inv m (by_answer m (no_doubt b) x (Ok n)) t × TookEffect m b x (Ok n)
      acknowledged n t a = (
        inv_at m (no_doubt (with_change m b x)) d t Open fits a.made.same_size writable_after a.stage
            (record { sure = refl; working = record { ready = a.made.ready; shows = shown_made (home_of t.disk) a.made.home_now } }),
        (a.count ∙ ap (λ n. n + 1) (shows_count m (room (size d)) b (home_of d) g k.shows), (u, applies.effects)),
      )

      -- by the place, what may stand
      lost_by : (place : CutPlace) (t : MonitorState) → t.stage ≡ Dark → CutChange place q d t.disk → Inv m (by_answer m (no_doubt b) x (Err (lost_in place))) t
      lost_by journal.Staging t s c =
          let o = c.cut k.ready in
          inv_at m (no_doubt b) d t Dark fits o.same_size g s
          (record { finishable = o.finishable; shows = λ h w. subst (λ z. Shown m b z) (sym (o.stands h w)) k.shows })
      lost_by journal.Committing t s c =
          let o = c.cut k.ready in
          inv_at m (in_doubt b x) d t Dark fits o.same_size g s
          (record {
            finishable = o.finishable;
            shows = λ h w. elim (o.stands h w) [
              | inl e ↦ inl (subst (λ z. Shown m b z) (sym e) k.shows)
              | inr e ↦ inr (u, subst (λ n. Made m (room n) b x u) (sym o.same_size) applies, shown_next h e)
            ];
          })
      lost_by journal.Installing t s c =
          let o = c.cut k.ready in
          inv_at m (no_doubt (with_change m b x)) d t Dark fits o.same_size writable_after s
          (record { finishable = o.finishable; shows = λ h w. shown_made h (o.stands h w) })

      lost : (e : Refusal) (t : MonitorState) → LostPower q (monitor_with Open d) e t → Inv m (by_answer m (no_doubt b) x (Err e)) t
      lost e t l = subst (λ (z : Refusal). Inv m (by_answer m (no_doubt b) x (Err z)) t) (sym l.answer) (lost_by l.place t l.stage l.cut)

      changed_keeps : (r : Result ℕ Refusal) (t : MonitorState) → MakesChange q (monitor_with Open d) r t → Inv m (by_answer m (no_doubt b) x r) t × TookEffect m b x r
      changed_keeps (Ok n) t a = acknowledged n t a
      changed_keeps (Err e) t a = (lost e t a, tt)

  -- a call that wants a change, on an open monitor
  pub wants_keeps :
      (w : Result (List Home) Refusal) (r : Result ℕ Refusal) (t : MonitorState) → Wants m b d x w
      → (Typed x → (u : BookState) → Made m (room (size d)) b x u → Shown m (with_effect b x (Some u)) (home_with (update_of (head_on (home_of d)) x u) d))
      → ChangesOrRefuses w (monitor_with Open d) r t → Inv m (by_answer m (no_doubt b) x r) t × TookEffect m b x r
  wants_keeps (Err e) r t v moves c =
      refused_keeps m (no_doubt b) x (monitor_with Open d) t e r (not_lost m (no_doubt b) x e v.clean.clean) c
      (record { fits = fits; writable = g; at = record { sure = refl; working = k } })
  wants_keeps (Ok p) r t v moves c =
      let done = v.records_applied p refl in
      let applies = writable_made m (room (size d)) gives b x done.0 g done.3 done.1 in
      let named = subst (λ (z : List Home). MakesChange z (monitor_with Open d) r t) done.2 c in
      changed_keeps done.0 applies (moves done.3 done.0 applies) r t named
