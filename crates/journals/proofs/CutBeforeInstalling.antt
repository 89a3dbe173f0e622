-- Steps 1 to 4 on a journal that was ready.
use Rattle.std.proofs.Common.{◌≡◌, ℕ, ◌<◌, ◌≤◌, ◌⊎◌, List, [], Contains, length, get_or, set, sym, refl, ap, ◌∙◌, inl, inr, arith}
use Rattle.std.proofs.lemmas.List.{length-set, length-map, get_or-set_same, get_or-set_other, drop-set-lt}
use Rattle.std.proofs.lemmas.Bool.{cases_eq}
use Rattle.drives.specs.Disk.{Disk, GainsOnly, size}
use Rattle.changes.specs.declared.home.Home.{Home}
use Rattle.changes.specs.CommitBlock.{commit_block_of, named_in, LawfulCommit}
use Rattle.changes.specs.Homes.{home_at, numbers, contents}
use Rattle.changes.specs.RoundTrip.{ReadsBack}
use Rattle.journals.specs.Redo.{overlay, slot_blocks, slot, commit_block, named_homes, home_blocks, finished}
use Rattle.journals.specs.JournalState.{home_of, IsZero, Ready, LeavesOnly}
use Rattle.journals.specs.Steps.{GainsAtMost, CutStoringBlocks, CutStoringCommitBlock, Staged, Committed, in_write, in_flush, in_commit_write, in_commit_flush}
use Rattle.journals.specs.Outcomes.{home_with, MayStandAfter}
use Rattle.journals.specs.declared.cut_place.CutPlace.TheVariants.{Committing}
use Rattle.journals.specs.Laws.Overlay.{names_home, names_blocks_from, blocks_from-elsewhere, blocks_from-inside, home_same, home_overlay, named_are, finished_nothing}
use Rattle.journals.specs.Laws.ZeroCommit.{lawful_same, zero_is_lawful}
use Rattle.journals.proofs.WriteOneMore.{written_size, stored_size}
use Rattle.journals.proofs.CutWhileInstalling.{FinishesAs, IsFinishedHome, Redoing, leaves_only, near_finishes}

-- p is as d, but for slots
same_but_slots : (d : Disk) (p : List (List ℕ)) → Ready d → length p ≡ size d → commit_block p ≡ commit_block d.blocks → ((k : ℕ) → 7 ≤ k → k < length p → get_or p k [] ≡ get_or d.blocks k []) → LawfulCommit (length p) (commit_block p) × (home_blocks (finished p) ≡ home_of d)
same_but_slots d p r s e f =
    let z : IsZero (commit_block p) = λ j. ap (λ x. get_or x j 0) e ∙ r.commit_zero j in
    (zero_is_lawful (length p) (commit_block p) z, ap home_blocks (finished_nothing p (z 0)) ∙ home_same p d.blocks s f)

-- the slots of e hold these homes, and its home is that of d
pub record SlotsHold (homes : List Home) (d e : Disk) : Type 0 where
  pub ready : Ready e
  pub same_size : size e ≡ size d
  pub same : home_of e ≡ home_of d
  pub slots_hold : (i : ℕ) → i < length homes → get_or e.blocks (slot i) [] ≡ get_or (contents homes) i []

-- the change stands in e: finishing leaves the home of d with it
pub record ChangeStands (homes : List Home) (d e : Disk) : Type 0 where
  pub redoing : Redoing homes e
  pub same_size : size e ≡ size d
  pub leaves : home_blocks (finished e.blocks) ≡ home_with homes d

pub LeavesOnly-weaker : (P Q : List (List ℕ) → Type 0) (d e f : Disk) → size e ≡ size d → ((h : List (List ℕ)) → P h → Q h) → LeavesOnly P e f → LeavesOnly Q d f
LeavesOnly-weaker P Q d e f s m u = record { off = u.off; same_size = u.same_size ∙ s; finishable = u.finishable; stands = λ h t. m h (u.stands h t) }

module _ (homes : List Home) (few : length homes ≤ 6) (d : Disk) (r : Ready d) where
  long : length (contents homes) ≡ length homes
  long = length-map homes (λ h. h.content)

  -- the commit block and the home blocks are no slots
  apart : (k : ℕ) (x : List ℕ) → (k ≡ 0) ⊎ (7 ≤ k) → Contains (slot_blocks homes) (home_at k x) → ⊥
  apart k x o w =
      let b = names_blocks_from 1 (contents homes) k (names_home (slot_blocks homes) k x w) in
      elim o [ inl e ↦ omega (arith, b.0) | inr l ↦ omega (arith, b.1, long) ]

  stage_finishes : (e : Disk) → size e ≡ size d → GainsAtMost (slot_blocks homes) d e → FinishesAs e (λ h. h ≡ home_of d)
  stage_finishes e s g p c =
      let at : (k : ℕ) → k < length p → (k ≡ 0) ⊎ (7 ≤ k) → get_or p k [] ≡ get_or d.blocks k [] = λ k h o. elim (g k (get_or p k []) (omega (arith, c.same_size, s)) (c.each k h)) [ inl a ↦ r.settled.only k (get_or p k []) (omega (arith, c.same_size, s)) a | inr w ↦ absurd (apart k (get_or p k []) o w) ] in
      same_but_slots d p r (c.same_size ∙ s) (at 0 (omega (arith, c.same_size, s, r.wide)) (inl refl)) (λ k u v. at k v (inr u))

  pub stage_cut : (e : Disk) → CutStoringBlocks (slot_blocks homes) d e → LeavesOnly (λ h. h ≡ home_of d) d e
  stage_cut e (in_write u) = leaves_only (λ h. h ≡ home_of d) d e u.off u.same_size (stage_finishes e u.same_size u.gains)
  stage_cut e (in_flush {m} u v) =
      let s : size e ≡ size d = v.same_size ∙ written_size (slot_blocks homes) d m u in
      leaves_only (λ h. h ≡ home_of d) d e v.off s (stage_finishes e s (λ k x l h. u.gains k x l (v.gains k x (omega (arith, written_size (slot_blocks homes) d m u)) h)))

  pub stage_done : (e : Disk) → Staged homes d e → SlotsHold homes d e
  stage_done e u =
      let b : e.blocks ≡ overlay (slot_blocks homes) d.blocks = u.flushes.blocks ∙ u.writes.blocks in
      let s : size e ≡ size d = stored_size (slot_blocks homes) d e u in
      let out : (k : ℕ) → (k ≡ 0) ⊎ (7 ≤ k) → get_or e.blocks k [] ≡ get_or d.blocks k [] = λ k o. ap (λ x. get_or x k []) b ∙ blocks_from-elsewhere 1 (contents homes) d.blocks k (elim o [ inl y ↦ inl (omega arith) | inr y ↦ inr (omega (arith, long)) ]) in
      record {
        ready = record { on = u.flushes.on; wide = omega (arith, r.wide, s); settled = u.flushes.settled; commit_zero = λ j. ap (λ x. get_or x j 0) (out 0 (inl refl)) ∙ r.commit_zero j };
        same_size = s;
        same = home_same e.blocks d.blocks s (λ k h l. out k (inr h));
        slots_hold = λ i h. ap (λ x. get_or x (slot i) []) b ∙ blocks_from-inside 1 (contents homes) d.blocks i (omega (arith, long)) (omega (arith, r.wide));
      }

-- the commit block that names homes
abbrev pub naming : List Home → List ℕ
naming homes = commit_block_of (numbers homes)

-- the slots of s were filled from d, and its home is that of d
module _ (homes : List Home) (d s : Disk) (back : ReadsBack (size d) (numbers homes)) (st : SlotsHold homes d s) where
  -- the blocks of s with the commit block
  module _ (q : List (List ℕ)) (b : q ≡ set s.blocks 0 (naming homes)) where
    set_size : length q ≡ size d
    set_size = ap length b ∙ length-set s.blocks 0 (naming homes) ∙ st.same_size

    set_commit : commit_block q ≡ naming homes
    set_commit = ap commit_block b ∙ get_or-set_same s.blocks 0 (naming homes) [] (omega (arith, st.ready.wide))

    set_lawful : LawfulCommit (length q) (commit_block q)
    set_lawful = lawful_same (length q) (size d) (commit_block q) (naming homes) set_size set_commit back.lawful

    set_names : named_homes q ≡ homes
    set_names =
        named_are q homes (ap named_in set_commit ∙ back.named)
        (λ i h. ap (λ x. get_or x (slot i) []) b ∙ get_or-set_other s.blocks 0 (slot i) (naming homes) [] (λ e. omega arith) ∙ st.slots_hold i h)

    set_leaves : home_blocks (finished q) ≡ home_with homes d
    set_leaves =
        ap (λ hs. home_blocks (overlay hs q)) set_names
        ∙ home_overlay homes q d.blocks set_size (ap home_blocks b ∙ drop-set-lt 7 s.blocks 0 (naming homes) (omega arith) ∙ st.same)

  commit_finishes : (e : Disk) → size e ≡ size s → GainsOnly s 0 (naming homes) e → FinishesAs e (MayStandAfter Committing (home_of d) (home_with homes d))
  commit_finishes e same g p ch =
      let q = set s.blocks 0 (naming homes) in
      let long : length p ≡ size s = ch.same_size ∙ same in
      let at : (k : ℕ) → k < length p → (k ≡ 0 → ⊥) → get_or p k [] ≡ get_or s.blocks k [] = λ k h ne. elim (g k (get_or p k []) (omega arith) (ch.each k h)) [ inl a ↦ st.ready.settled.only k (get_or p k []) (omega arith) a | inr v ↦ absurd (ne v.0) ] in
      elim (g 0 (get_or p 0 []) (omega (arith, st.ready.wide)) (ch.each 0 (omega (arith, st.ready.wide)))) [
        | inl a ↦ (let o = same_but_slots s p st.ready long (st.ready.settled.only 0 (get_or p 0 []) (omega (arith, st.ready.wide)) a) (λ k u v. at k v (λ e. omega arith)) in (o.0, inl (o.1 ∙ st.same)))
        | inr z ↦ (let w = near_finishes q p (set_lawful q refl) (omega (arith, st.ready.wide, length-set s.blocks 0 (naming homes))) (long ∙ sym (length-set s.blocks 0 (naming homes))) (λ k h. inl (elim (cases_eq k 0) [ inl y ↦ rw y (z.1 ∙ sym (set_commit q refl)) | inr ne ↦ at k h ne ∙ sym (get_or-set_other s.blocks 0 k (naming homes) [] ne) ])) in
            (w.0, inr (w.1 ∙ set_leaves q refl)))
      ]

  pub commit_cut : (e : Disk) → CutStoringCommitBlock (naming homes) s e → LeavesOnly (MayStandAfter Committing (home_of d) (home_with homes d)) d e
  commit_cut e (in_commit_write u) = leaves_only (MayStandAfter Committing (home_of d) (home_with homes d)) d e u.off (u.same_size ∙ st.same_size) (commit_finishes e u.same_size u.gains)
  commit_cut e (in_commit_flush {m} u v) =
      let w : size m ≡ size s = ap length u.blocks ∙ length-set s.blocks 0 (naming homes) in
      let same : size e ≡ size s = v.same_size ∙ w in
      leaves_only (MayStandAfter Committing (home_of d) (home_with homes d)) d e v.off (same ∙ st.same_size) (commit_finishes e same (λ k x l h. u.gains k x l (v.gains k x (omega (arith, w)) h)))

  pub commit_done : (e : Disk) → Committed homes s e → ChangeStands homes d e
  commit_done e u =
      let b : e.blocks ≡ set s.blocks 0 (naming homes) = u.flushes.blocks ∙ u.writes.blocks in
      record {
        redoing = record { wide = omega (arith, st.ready.wide, st.same_size, set_size e.blocks b); settled = u.flushes.settled; lawful = set_lawful e.blocks b; names = set_names e.blocks b };
        same_size = set_size e.blocks b;
        leaves = set_leaves e.blocks b;
      }

-- what stands when steps 5 to 8 were cut, is the home of d with the change
pub change_cut_installing : (homes : List Home) (d t e : Disk) → ChangeStands homes d t → LeavesOnly (IsFinishedHome t) t e → LeavesOnly (λ h. h ≡ home_with homes d) d e
change_cut_installing homes d t e k u =
    LeavesOnly-weaker (IsFinishedHome t) (λ h. h ≡ home_with homes d) d t e k.same_size (λ h o. o ∙ k.leaves) u
