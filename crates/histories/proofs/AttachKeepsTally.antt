-- Attach, whatever power does: it is accepted or loses power, and the tally knows which change
-- stands.
use Rattle.std.proofs.Common.{◌≡◌, ℕ, ◌+◌, eqb, List, [], ◌∷◌, ◌++◌, length, Some, None, Ok, Err, Option, Result, refl, sym, ap, ◌∙◌, subst, inl, inr, arith}
use Rattle.std.proofs.lemmas.Bool.{cond-true, cond-false, eq-eqb, ne_eqb}
use Rattle.std.proofs.Math.ListN.{length-append}
use Rattle.lists.specs.Answers.{not_ok, same_err}
use Rattle.refusals.specs.declared.places.PowerPlace.TheVariants.{Starting}
use Rattle.refusals.specs.declared.refusal.Refusal.{Refusal}
use Rattle.refusals.specs.Refused.{lost_at}
use Rattle.books.specs.Meaning.{Meaning}
use Rattle.journals.specs.Redo.{finished, home_blocks}
use Rattle.journals.specs.Outcomes.{TurnedOn}
use Rattle.journals.specs.JournalState.{JournalState, size, Stands, Finishable}
use Rattle.records.specs.declared.record.Record.{Record}
use Rattle.layout.specs.declared.head.Head.{Head}
use Rattle.layout.specs.Laws.{fields_back}
use Rattle.image.specs.Home.{block_at}
use Rattle.image.specs.Laws.{accepts_exactly_lawful}
use Rattle.image.specs.Layout.{lawful_size, room}
use Rattle.image.specs.Lawful.{LawfulHome, LawfulImage}
use Rattle.image.specs.Inspects.{Inspected, WentOn, finishing_cut, commit_unlawful, judged, stays_off, powered_on}
use Rattle.image.specs.Laws.Inspecting.{accepted}
use Rattle.monitor.specs.declared.stage.Stage.TheVariants.{Open, Dark}
use Rattle.monitor.specs.MonitorState.{MonitorState}
use Rattle.monitor.specs.Starting.{Attaches, stage_after}
use Rattle.histories.specs.Law.{OnlyForPower}
use Rattle.histories.specs.Tally.{Books, Tally, no_doubt, with_effect, doubt_resolved, attached}
use Rattle.histories.proofs.WritableBooks.{Writable}
use Rattle.histories.proofs.TallyInvariant.{MayShow, Waiting, Inv, inv_at, waits}
use Rattle.histories.proofs.HomeShowsTally.{Shown, shows_lawful}

-- home blocks that may stand are lawful
may_lawful : (m : Meaning) (most : ℕ) (b : Books) (o : Option Record) (h : List (List ℕ)) → Writable m most b → MayShow m most b o h → LawfulHome m most h
may_lawful m most b None h g s = shows_lawful m most b h g s
may_lawful m most b (Some x) h g (inl s) = shows_lawful m most b h g s
may_lawful m most b (Some x) h g (inr (u, q, s)) = shows_lawful m most (with_effect b x (Some u)) h q.writable s

-- the head that is found counts what the head shown counts
counted_as : (m : Meaning) (b : Books) (h : List (List ℕ)) (most : ℕ) (l : LawfulHome m most h) → Shown m b h → l.head.count ≡ length b.records
counted_as m b h most l s =
    ap (λ (z : Head). z.count) (sym (fields_back l.head (block_at h 7) l.head_stands) ∙ fields_back s.head (block_at h 7) s.head_stands) ∙ s.counts

-- which change stands is decided by the count
pub record DoubtResolved (m : Meaning) (most : ℕ) (t : Tally) (h : List (List ℕ)) : Type 0 where
  pub sure : t.doubt ≡ None
  pub writable : Writable m most t.books
  pub shows : Shown m t.books h

decided :
    (m : Meaning) (most : ℕ) (b : Books) (o : Option Record) (h : List (List ℕ)) (n k : ℕ) (l : LawfulHome m k h) → Writable m most b → MayShow m most b o h
    → n ≡ l.head.count → DoubtResolved m most (doubt_resolved m b n o) h
decided m most b None h n k l g s e = record { sure = refl; writable = g; shows = s }
decided m most b (Some x) h n k l g (inl s) e =
    let count : n ≡ length b.records = e ∙ counted_as m b h k l s in
    let is : doubt_resolved m b n (Some x) ≡ no_doubt b = cond-false (eqb n (length b.records + 1)) _ _ (ne_eqb n (length b.records + 1) (λ q. omega arith)) in
    subst (λ (t : Tally). DoubtResolved m most t h) (sym is) (record { sure = refl; writable = g; shows = s })
decided m most b (Some x) h n k l g (inr (u, q, s)) e =
    let count : n ≡ length (b.records ++ (x ∷ [])) = e ∙ counted_as m (with_effect b x (Some u)) h k l s in
    let one_more : n ≡ length b.records + 1 = count ∙ length-append b.records (x ∷ []) in
    let is : doubt_resolved m b n (Some x) ≡ no_doubt (with_effect b x (Some u)) =
    cond-true (eqb n (length b.records + 1)) _ _ (eq-eqb n (length b.records + 1) one_more) ∙ ap (λ z. no_doubt (with_effect b x z)) q.effects in
    subst (λ (t : Tally). DoubtResolved m most t h) (sym is) (record { sure = refl; writable = q.writable; shows = s })

module _ (m : Meaning) (t : Tally) (s : MonitorState) (i : Inv m t s) where
  here : Waiting m t.books t.doubt s.disk
  here = waits m t s.stage s.disk i.at

  accepted_keeps : (n : ℕ) (u : MonitorState) → Attaches m s (Ok n) u → Inv m (attached m t (Ok n)) u
  accepted_keeps n u a =
      let f = accepted m s.disk n u.disk a.inspects in
      let h : List (List ℕ) = home_blocks (finished f.left.blocks) in
      let same : size f.left ≡ size s.disk = f.turned_on.same_size in
      let shows = here.shows h (f.turned_on.stood f.image.lawful_commit) in
      let v = decided m (room (size s.disk)) t.books t.doubt h n (room (size f.left)) f.image.lawful_home i.writable shows f.count in
      inv_at m (doubt_resolved m t.books n t.doubt) s.disk u Open i.fits (f.done.same_size ∙ same) v.writable a.stage
      (record { sure = v.sure; working = record { ready = f.done.ready f.turned_on.settled; shows = subst (λ z. Shown m (doubt_resolved m t.books n t.doubt).books z) (sym f.done.home_now) v.shows } })

  module _ (e : Refusal) (u : MonitorState) (st : u.stage ≡ stage_after (Err e)) where
    abbrev Kept : Type 0
    Kept = Inv m t u × (e ≡ lost_at Starting)

    -- dark, on a drive as large, on which nothing may stand but what could
    dark_keeps :
        ◌≡◌ {A = Result ℕ Refusal} (Err e) (Err (lost_at Starting)) → size u.disk ≡ size s.disk → Finishable u.disk
        → ((h : List (List ℕ)) → Stands u.disk h → MayShow m (room (size s.disk)) t.books t.doubt h) → Kept
    dark_keeps q same fin shows =
        let lost : e ≡ lost_at Starting = same_err e _ q in
        let dark : u.stage ≡ Dark = st ∙ ap (λ (z : Refusal). stage_after (Err z)) lost in (
          inv_at m t s.disk u Dark i.fits same i.writable dark
              (record { finishable = fin; shows = λ h w. subst (λ n. MayShow m (room n) t.books t.doubt h) (sym same) (shows h w) }),
          lost,
        )

    went_on_keeps : (p : JournalState) → TurnedOn s.disk p → WentOn m p (Err e) u.disk → Kept
    went_on_keeps p on (finishing_cut q lawful cut) =
        let o = cut.cut on.settled in
        let shows = here.shows (home_blocks (finished p.blocks)) (on.stood lawful) in
        dark_keeps q (o.same_size ∙ on.same_size) o.finishable
        (λ g w. subst (λ z. MayShow m (room (size s.disk)) t.books t.doubt z) (sym (o.stands g w)) shows)
    went_on_keeps p on (commit_unlawful q unlawful same) = absurd (on.refusable unlawful here.finishable)
    went_on_keeps p on (judged q lawful done) =
        let h : List (List ℕ) = home_blocks (finished p.blocks) in
        let home_lawful = may_lawful m (room (size s.disk)) t.books t.doubt h i.writable (here.shows h (on.stood lawful)) in
        let image : LawfulImage m p.blocks = record {
          lawful_length = ap lawful_size on.same_size ∙ i.fits;
          lawful_commit = lawful;
          lawful_home = subst (λ k. LawfulHome m (room k) h) (sym on.same_size) home_lawful;
        } in
        not_ok _ e (sym (accepts_exactly_lawful.accepts m p.blocks image) ∙ sym q)

    refused_keeps : Inspected m s.disk (Err e) u.disk → Kept
    refused_keeps (stays_off q off) = dark_keeps q off.same_size (off.finishable here.finishable) (λ h w. here.shows h (off.stands h w))
    refused_keeps (powered_on on) = went_on_keeps on.left on.turned_on on.went_on

  pub attach_keeps : (r : Result ℕ Refusal) (u : MonitorState) → Attaches m s r u → Inv m (attached m t r) u × OnlyForPower r
  attach_keeps (Ok n) u a = (accepted_keeps n u a, tt)
  attach_keeps (Err e) u a = refused_keeps e u a.stage (a.inspects.met i.fits)
