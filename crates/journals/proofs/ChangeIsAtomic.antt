-- A whole change, from its steps to what stands.
use Rattle.std.proofs.Common.{◌≡◌, ℕ, ◌<◌, ◌≤◌, List, [], length, get_or, set, sym, ap, ◌∙◌, subst, inl, inr, arith}
use Rattle.std.proofs.lemmas.List.{length-set, length-map, get_or-set_same, get_or-set_other}
use Rattle.drives.specs.Disk.{Disk, size}
use Rattle.changes.specs.declared.home.Home.{Home}
use Rattle.changes.specs.CommitBlock.{commit_block_of, zeros}
use Rattle.changes.specs.Homes.{numbers, contents}
use Rattle.changes.specs.RoundTrip.{ReadsBack}
use Rattle.journals.specs.Redo.{overlay, slot_blocks, slot, commit_block, home_blocks}
use Rattle.journals.specs.JournalState.{home_of, StandsAlone, Ready}
use Rattle.journals.specs.Steps.{StepsDone, StepsCut, in_staging, in_committing, in_installing}
use Rattle.journals.specs.Outcomes.{home_with, DoneChange, CutChange}
use Rattle.journals.specs.declared.cut_place.CutPlace.{CutPlace}
use Rattle.journals.specs.Laws.Overlay.{Names, names_at, overlay_length, overlay_elsewhere, overlay_agree, blocks_from-elsewhere, blocks_from-inside, home_same}
use Rattle.journals.specs.Laws.ZeroCommit.{zeros_are_zero}
use Rattle.journals.specs.Laws.{ready_alone}
use Rattle.journals.proofs.CutWhileInstalling.{installed_blocks, redo_cut, storing_off, commit_off, installing_off}
use Rattle.journals.proofs.CutBeforeInstalling.{stage_cut, stage_done, commit_cut, commit_done, change_cut_installing}

pub ready_alone_at : (d : Disk) (h : List (List ℕ)) → Ready d → home_of d ≡ h → StandsAlone d h
ready_alone_at d h r e = subst (λ x. StandsAlone d x) e (ready_alone d r)

module _ (homes : List Home) (p : List (List ℕ)) (c : List ℕ) (few : length homes ≤ 6) (wide : 7 ≤ length p) (high : (k : ℕ) → Names homes k → 7 ≤ k) where
  long : length (contents homes) ≡ length homes
  long = length-map homes (λ h. h.content)

  -- the blocks with the slots and the commit block, and after all steps
  committed_blocks : List (List ℕ)
  committed_blocks = set (overlay (slot_blocks homes) p) 0 c

  pub after : List (List ℕ)
  after = set (overlay homes (set (overlay (slot_blocks homes) p) 0 c)) 0 zeros

  committed_length : length committed_blocks ≡ length p
  unfolding committed_blocks
  committed_length = length-set (overlay (slot_blocks homes) p) 0 c ∙ overlay_length (slot_blocks homes) p

  pub after_is : (q : List (List ℕ)) → q ≡ set (overlay homes (set (overlay (slot_blocks homes) p) 0 c)) 0 zeros → q ≡ after
  unfolding after
  after_is q e = e

  pub after_length : length after ≡ length p
  unfolding after committed_blocks
  after_length = length-set (overlay homes committed_blocks) 0 zeros ∙ overlay_length homes committed_blocks ∙ committed_length

  pub after_commit : commit_block after ≡ zeros
  unfolding after committed_blocks
  after_commit = get_or-set_same (overlay homes committed_blocks) 0 zeros [] (omega (arith, overlay_length homes committed_blocks, committed_length))

  -- slots are not home blocks
  after_slot : (i : ℕ) → i < 6 → get_or after (slot i) [] ≡ get_or (overlay (slot_blocks homes) p) (slot i) []
  unfolding after committed_blocks
  after_slot i h =
      get_or-set_other (overlay homes committed_blocks) 0 (slot i) zeros [] (λ e. omega arith)
      ∙ overlay_elsewhere homes committed_blocks (slot i) (λ w. omega (arith, high (slot i) w))
      ∙ get_or-set_other (overlay (slot_blocks homes) p) 0 (slot i) c [] (λ e. omega arith)

  pub after_used : (i : ℕ) → i < length homes → get_or after (slot i) [] ≡ get_or (contents homes) i []
  after_used i h = after_slot i (omega arith) ∙ blocks_from-inside 1 (contents homes) p i (omega (arith, long)) (omega arith)

  pub after_other : (i : ℕ) → length homes ≤ i → i < 6 → get_or after (slot i) [] ≡ get_or p (slot i) []
  after_other i l h = after_slot i h ∙ blocks_from-elsewhere 1 (contents homes) p (slot i) (inr (omega (arith, long)))

  pub after_home : home_blocks after ≡ home_blocks (overlay homes p)
  unfolding after committed_blocks
  after_home =
      let same : (k : ℕ) → 7 ≤ k → get_or committed_blocks k [] ≡ get_or p k [] = λ k h. get_or-set_other (overlay (slot_blocks homes) p) 0 k c [] (λ e. omega arith) ∙ blocks_from-elsewhere 1 (contents homes) p k (inr (omega (arith, long))) in
      home_same after (overlay homes p) (after_length ∙ sym (overlay_length homes p))
      (λ k h l. get_or-set_other (overlay homes committed_blocks) 0 k zeros [] (λ e. omega arith) ∙ overlay_agree homes committed_blocks p k committed_length (omega (arith, after_length, committed_length)) (inl (same k h)))

module _ (homes : List Home) (d e : Disk) (few : length homes ≤ 6) (wide : 7 ≤ size d) (back : ReadsBack (size d) (numbers homes)) where
  high : (k : ℕ) → Names homes k → 7 ≤ k
  high k w =
      let m = names_at homes k w in
      omega (arith, m.2, back.lawful.rises.low m.0 (omega (arith, m.1, ap length back.named, length-map homes (λ h. h.number))), ap (λ ns. get_or ns m.0 0) back.named)

  -- all steps done
  pub change_made : StepsDone homes d e → DoneChange homes d e
  change_made s =
      let c : List ℕ = commit_block_of (numbers homes) in
      let filled = s.stages.flushes.blocks ∙ s.stages.writes.blocks in
      let committed = s.commits.flushes.blocks ∙ s.commits.writes.blocks ∙ ap (λ z. set z 0 c) filled in
      let b = after_is homes d.blocks c few wide high e.blocks (installed_blocks homes s.committed e s.installs ∙ ap (λ z. set (overlay homes z) 0 zeros) committed) in
      let same : size e ≡ size d = ap length b ∙ after_length homes d.blocks c few wide high in
      let zero : commit_block e.blocks ≡ zeros = ap commit_block b ∙ after_commit homes d.blocks c few wide high in
      let h : home_of e ≡ home_with homes d = ap home_blocks b ∙ after_home homes d.blocks c few wide high in
      let r : Ready e = record { on = s.installs.zeroes.flushes.on; wide = omega arith; settled = s.installs.zeroes.flushes.settled; commit_zero = zeros_are_zero (commit_block e.blocks) zero } in
      record {
        ready = r;
        same_size = same;
        home_now = h;
        alone = ready_alone_at e (home_with homes d) r h;
        used_slots = λ i l. ap (λ x. get_or x (slot i) []) b ∙ after_used homes d.blocks c few wide high i l;
        other_slots = λ i l m. ap (λ x. get_or x (slot i) []) b ∙ after_other homes d.blocks c few wide high i l m;
        commit_zero = zero;
      }

  -- cut at a place
  pub change_cut : (at : CutPlace) → StepsCut homes d e at → CutChange at homes d e
  change_cut _ (in_staging w) = record { off = storing_off (slot_blocks homes) d e w; steps = in_staging w; cut = λ r. stage_cut homes few d r e w }
  change_cut _ (in_committing {s} st w) =
      record {
        off = commit_off (commit_block_of (numbers homes)) s e w;
        steps = in_committing st w;
        cut = λ r. commit_cut homes d s back (stage_done homes few d r s st) e w;
      }
  change_cut _ (in_installing {s} {t} st co w) =
      record {
        off = installing_off homes t e w;
        steps = in_installing st co w;
        cut = λ r. (
            let k = commit_done homes d s back (stage_done homes few d r s st) t co in
            change_cut_installing homes d t e k (redo_cut homes t k.redoing e w));
      }
