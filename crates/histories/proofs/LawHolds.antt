-- The law of every history.
use Rattle.std.proofs.Common.{◌≡◌, ℕ, List, ◌∷◌, Some, None, Option, Result, refl, sym, ap, subst, IfSome}
use Rattle.refusals.specs.declared.refusal.Refusal.{Refusal}
use Rattle.refusals.specs.Refused.{◌>>◌}
use Rattle.books.specs.Meaning.{Meaning, StepTests, StepGivesCodes}
use Rattle.changes.specs.declared.home.Home.{Home}
use Rattle.journals.specs.Laws.{taken_finishable, taken_stands}
use Rattle.journals.specs.JournalState.{JournalState, TakenOver}
use Rattle.records.specs.declared.record.Record.{Record}
use Rattle.records.specs.declared.record.Record.TheVariants.{Strike}
use Rattle.image.specs.Layout.{room}
use Rattle.monitor.specs.declared.stage.Stage.{Stage}
use Rattle.monitor.specs.declared.stage.Stage.TheVariants.{Shut, Open, Dark}
use Rattle.monitor.specs.Calls.{ChangesOrRefuses, posting_record, countersigned, certification_record, certifying, striking}
use Rattle.monitor.specs.Stages.{may_work}
use Rattle.monitor.specs.MonitorState.{MonitorState, monitor_with, home_of, room_of}
use Rattle.calls.specs.PlainValue.{PlainValue, FormatCall, AttachCall, CertifyCall, StrikeCall, ItemCall, RecordCall}
use Rattle.histories.specs.declared.answer.Answer.{Answer}
use Rattle.histories.specs.Events.{CallValue, EnterCall, CountersignCall, PlainCall, Event, PlainlyPromised, Promised, History, begun, then, again}
use Rattle.histories.specs.Law.{Agrees, TookEffect, Owed, Law}
use Rattle.histories.specs.Tally.{Tally, no_doubt, by_answer, fed, tally}
use Rattle.histories.proofs.AttachKeepsTally.{attach_keeps}
use Rattle.histories.proofs.FormatKeepsTally.{InvIf, format_keeps}
use Rattle.histories.proofs.TallyInvariant.{Inv, At, AtWork, MayShow, Wants, waits, inv_at, refused_keeps, wants_keeps}
use Rattle.histories.proofs.HomeShowsTally.{shows_items, shows_rows, shows_records, shows_opening}
use Rattle.histories.proofs.ChangesShowTally.{countersigned_wants, certifying_wants, striking_wants, shows_after}

-- a change that is wanted, on an open monitor
open_keeps :
    (m : Meaning) → StepGivesCodes m → (t : Tally) (d : JournalState) (x : Record) (w : Result (List Home) Refusal) (r : Result ℕ Refusal) (u : MonitorState)
    → (i : Inv m t (monitor_with Open d)) → Wants m t.books d x w → ChangesOrRefuses w (monitor_with Open d) r u → Inv m (by_answer m t x r) u × TookEffect m t.books x r
open_keeps m gives t d x w r u i v c =
    let sure : no_doubt t.books ≡ t = ap (λ (o : Option Record). record { books = t.books; doubt = o }) (sym i.at.sure) in
    let k = wants_keeps m gives t.books d x i.fits i.writable i.at.working w r u v (λ y u q. shows_after m t.books d i.fits i.writable i.at.working x u y q) c in
    (subst (λ (z : Tally). Inv m (by_answer m z x r) u) sure k.0, k.1)

module _ (m : Meaning) (tests : StepTests m) (gives : StepGivesCodes m) where
  -- a call that is admitted on an open monitor alone
  call_keeps :
      (t : Tally) (st : Stage) (d : JournalState) (x : Record) (w : Result (List Home) Refusal) (r : Result ℕ Refusal) (u : MonitorState)
      → Inv m t (monitor_with st d) → (Inv m t (monitor_with Open d) → Wants m t.books d x w) → ChangesOrRefuses (may_work st >> w) (monitor_with st d) r u
      → Inv m (by_answer m t x r) u × TookEffect m t.books x r
  call_keeps t Shut d x w r u i v c = refused_keeps m t x (monitor_with Shut d) u _ r refl c i
  call_keeps t Dark d x w r u i v c = refused_keeps m t x (monitor_with Dark d) u _ r refl c i
  call_keeps t Open d x w r u i v c = open_keeps m gives t d x w r u i (v i) c

  -- a call that only looks, whatever it answers
  look_keeps : (o : Option Tally) (s u : MonitorState) → InvIf m o s → u ≡ s → InvIf m o u
  look_keeps o s u i e = subst (λ (z : MonitorState). InvIf m o z) (sym e) i

  -- what a call that keeps the invariant leaves, with the tally fed
  abbrev Keeps : Option Tally → MonitorState → CallValue → Answer → Type 0
  Keeps o u c a = InvIf m (fed m o c a) u × IfSome o (λ t. Owed m t c a)

  -- by another name of its answer
  as_answered : (o : Option Tally) (u : MonitorState) (c : CallValue) (a b : Answer) → a ≡ b → Keeps o u c b → Keeps o u c a
  as_answered o u c a b e k = subst (Keeps o u c) (sym e) k

  -- each call keeps the invariant, with the tally fed, and gives the tally what it owes
  plainly_keeps : (o : Option Tally) (s u : MonitorState) (c : PlainValue) (a : Answer) → InvIf m o s → PlainlyPromised m s c a u → Keeps o u (PlainCall c) a
  plainly_keeps None s u (FormatCall house roll opening) a i (r, e, h) = as_answered None u (PlainCall (FormatCall house roll opening)) a _ e (format_keeps m house roll opening None s u r i h, tt)
  plainly_keeps None s u AttachCall a i (r, e, h) = as_answered None u (PlainCall AttachCall) a _ e (tt, tt)
  plainly_keeps None s u (CertifyCall word draft) a i (r, e, h) = as_answered None u (PlainCall (CertifyCall word draft)) a _ e (tt, tt)
  plainly_keeps None s u (StrikeCall word row) a i (r, e, h) = as_answered None u (PlainCall (StrikeCall word row)) a _ e (tt, tt)
  plainly_keeps None s u (ItemCall item) a i (e, h) = as_answered None u (PlainCall (ItemCall item)) a _ e (tt, tt)
  plainly_keeps None s u (RecordCall number) a i (e, h) = as_answered None u (PlainCall (RecordCall number)) a _ e (tt, tt)
  plainly_keeps (Some t) s u (FormatCall house roll opening) a i (r, e, h) = as_answered (Some t) u (PlainCall (FormatCall house roll opening)) a _ e (format_keeps m house roll opening (Some t) s u r i h, tt)
  plainly_keeps (Some t) s u AttachCall a i (r, e, h) = as_answered (Some t) u (PlainCall AttachCall) a _ e (attach_keeps m t s i r u h)
  plainly_keeps (Some t) s u (CertifyCall word draft) a i (r, e, h) =
      as_answered (Some t) u (PlainCall (CertifyCall word draft)) a _ e
      (call_keeps t s.stage s.disk (certification_record draft) (certifying m (monitor_with Open s.disk) word draft) r u i
      (λ j. certifying_wants m t.books s.disk j.fits j.writable j.at.working word draft h.fits) h.changes)
  plainly_keeps (Some t) s u (StrikeCall word row) a i (r, e, h) =
      as_answered (Some t) u (PlainCall (StrikeCall word row)) a _ e
      (call_keeps t s.stage s.disk (Strike row) (striking (monitor_with Open s.disk) word row) r u i
      (λ j. striking_wants m t.books s.disk j.fits j.writable j.at.working word row) h)
  plainly_keeps (Some t) s u (ItemCall item) a i (e, h) = as_answered (Some t) u (PlainCall (ItemCall item)) a _ e (look_keeps (Some t) s u i h, tt)
  plainly_keeps (Some t) s u (RecordCall number) a i (e, h) = as_answered (Some t) u (PlainCall (RecordCall number)) a _ e (look_keeps (Some t) s u i h, tt)

  called_keeps : (o : Option Tally) (s u : MonitorState) (c : CallValue) (a : Answer) → InvIf m o s → Promised m s c a u → Keeps o u c a
  called_keeps o s u (PlainCall c) a i h = plainly_keeps o s u c a i h
  called_keeps None s u (EnterCall user word note) a i (e, h) = as_answered None u (EnterCall user word note) a _ e (tt, tt)
  called_keeps None s u (CountersignCall user word slip) a i (r, e, h) = as_answered None u (CountersignCall user word slip) a _ e (tt, tt)
  called_keeps (Some t) s u (EnterCall user word note) a i (e, h) = as_answered (Some t) u (EnterCall user word note) a _ e (look_keeps (Some t) s u i h, tt)
  called_keeps (Some t) s u (CountersignCall user word slip) a i (r, e, h) =
      as_answered (Some t) u (CountersignCall user word slip) a _ e
      (call_keeps t s.stage s.disk (posting_record slip user) (countersigned m (monitor_with Open s.disk) user word slip) r u i
      (λ j. countersigned_wants m t.books s.disk j.fits j.writable j.at.working tests user word slip h.note) h.changes)

  -- a drive that another monitor takes over
  taken_keeps : (o : Option Tally) (s : MonitorState) (d : JournalState) → InvIf m o s → TakenOver s.disk d → InvIf m o (monitor_with Shut d)
  taken_keeps None s d i k = tt
  taken_keeps (Some t) s d i k =
      let w = waits m t s.stage s.disk i.at in
      inv_at m t s.disk (monitor_with Shut d) Shut i.fits k.same_size i.writable refl
      (record {
        finishable = taken_finishable s.disk d k w.finishable;
        shows = λ h v. subst (λ n. MayShow m (room n) t.books t.doubt h) (sym k.same_size) (w.shows h (taken_stands s.disk d k h v));
      })

  -- an open monitor that keeps the invariant agrees with the tally
  agrees : (o : Option Tally) (s : MonitorState) → InvIf m o s → s.stage ≡ Open → IfSome o (λ t. Agrees m s t.books)
  agrees None s i e = tt
  agrees (Some t) s i e =
      let a : AtWork m t s.disk = subst (λ (z : Stage). At m t z s.disk) e i.at in
      let k = a.working.shows in
      let h : List (List ℕ) = home_of s in
      record {
        items = shows_items m (room_of s) t.books h i.writable k;
        rows = shows_rows m (room_of s) t.books h i.writable k;
        records = shows_records m (room_of s) t.books h i.writable k;
        opening = shows_opening m (room_of s) t.books h i.writable k;
        valid = i.writable.items.valid;
        records_applied = i.writable.records_applied;
        every = i.writable.every;
        by_two = i.writable.by_two;
      }

  -- a history keeps the invariant, and obeys the law at every moment
  keeps_law : (es : List Event) (s : MonitorState) (h : History m es s) → InvIf m (tally m es) s × Law m h
  keeps_law _ _ begun = (tt, tt)
  keeps_law _ _ (then {es} {s} {t} {e} h d) =
      let i = keeps_law es s h in
      let j = called_keeps (tally m es) s t e.call e.answer i.0 d in
      (j.0, (i.1, record { owed = j.1; agrees = agrees (tally m (e ∷ es)) t j.0 }))
  keeps_law _ _ (again {es} {s} {d} h k) =
      let i = keeps_law es s h in
      (taken_keeps (tally m es) s d i.0 k, i.1)

  pub law_holds : (es : List Event) (s : MonitorState) (h : History m es s) → Law m h
  law_holds es s h = (keeps_law es s h).1
