-- Finishing: from its steps to what stands.
use Rattle.std.proofs.Common.{◌≡◌, ℕ, ◌<◌, ◌≤◌, true, List, [], length, get_or, set, sym, refl, ap, ◌∙◌, subst, inl, inr, arith}
use Rattle.std.proofs.lemmas.List.{length-map, length-set, get_or-set_same, get_or-set_other, drop-set-lt}
use Rattle.std.proofs.lemmas.Bool.{cases_lt}
use Rattle.drives.specs.Disk.{Disk, size, Settled}
use Rattle.changes.specs.CommitBlock.{count_of, named_in, zeros, LawfulCommit}
use Rattle.changes.specs.declared.home.Home.{Home}
use Rattle.changes.specs.Homes.{numbers}
use Rattle.journals.specs.Redo.{slot, commit_block, named_homes, home_blocks, finished}
use Rattle.journals.specs.JournalState.{home_of, present, Ready}
use Rattle.journals.specs.Steps.{Installed, CutInstalling}
use Rattle.journals.specs.Outcomes.{Finished, CutFinishing, nothing_named, installed}
use Rattle.journals.specs.Laws.Overlay.{length-named, numbers_named, finished_nothing, finished_length, finished_low}
use Rattle.journals.specs.Laws.ZeroCommit.{zeros_are_zero, lawful_is_zero}
use Rattle.journals.proofs.CutWhileInstalling.{installed_blocks, redo_cut, installing_off}
use Rattle.journals.proofs.ChangeIsAtomic.{ready_alone_at}

-- a drive whose commit block names some blocks has slots
pub named_wide : (d : Disk) → LawfulCommit (size d) (commit_block d.blocks) → (count_of (commit_block d.blocks) ≡ 0 → ⊥) → 7 ≤ size d
named_wide d lawful some =
    let c = commit_block d.blocks in
    let first : 0 < length (named_in c) = elim (cases_lt 0 (count_of c)) [ inl h ↦ omega (arith, length-named d.blocks, ap length (numbers_named d.blocks), length-map (named_homes d.blocks) (λ h. h.number)) | inr h ↦ absurd (some (omega arith)) ] in
    omega (arith, lawful.rises.low 0 first, lawful.rises.high 0 first)

-- and all of those blocks
pub named_within : (d : Disk) (hs : List Home) → hs ≡ named_homes d.blocks → LawfulCommit (size d) (commit_block d.blocks) → (i : ℕ) → i < length hs → get_or (numbers hs) i 0 < size d
named_within d hs e lawful i h =
    let ns = named_in (commit_block d.blocks) in
    let same : numbers hs ≡ ns = ap numbers e ∙ numbers_named d.blocks in
    omega (arith, ap (λ m. get_or m i 0) same, lawful.rises.high i (omega (arith, ap length same, length-map hs (λ h. h.number))))

module _ (d e : Disk) (wide : 7 ≤ size d) (lawful : LawfulCommit (size d) (commit_block d.blocks)) where
  -- a commit block that names nothing
  pub finished_as_is : d.on ≡ true → count_of (commit_block d.blocks) ≡ 0 → e ≡ d → Finished d e
  finished_as_is on z s =
      let h : home_of e ≡ home_blocks (finished d.blocks) = ap home_of s ∙ ap home_blocks (sym (finished_nothing d.blocks z)) in
      let r : Settled d → Ready e = λ t. subst Ready (sym s) (record { on = on; wide = wide; settled = t; commit_zero = lawful_is_zero (size d) (commit_block d.blocks) z lawful }) in
      record {
        steps = nothing_named z s;
        ready = r;
        same_size = ap size s;
        home_now = h;
        alone = λ t. ready_alone_at e (home_blocks (finished d.blocks)) (r t) h;
        same_slots = λ i l. ap (λ (x : Disk). present x (slot i)) s;
        commit_zero = λ j. ap (λ (x : Disk). get_or (commit_block x.blocks) j 0) s ∙ lawful_is_zero (size d) (commit_block d.blocks) z lawful j;
      }

  -- one that names some blocks
  pub finished_installing : Installed (named_homes d.blocks) d e → Finished d e
  finished_installing a =
      let b : e.blocks ≡ set (finished d.blocks) 0 zeros = installed_blocks (named_homes d.blocks) d e a in
      let same : size e ≡ size d = ap length b ∙ length-set (finished d.blocks) 0 zeros ∙ finished_length d.blocks in
      let h : home_of e ≡ home_blocks (finished d.blocks) = ap home_blocks b ∙ drop-set-lt 7 (finished d.blocks) 0 zeros (omega arith) in
      let zero : commit_block e.blocks ≡ zeros = ap commit_block b ∙ get_or-set_same (finished d.blocks) 0 zeros [] (omega (arith, finished_length d.blocks)) in
      let r : Ready e = record { on = a.zeroes.flushes.on; wide = omega arith; settled = a.zeroes.flushes.settled; commit_zero = zeros_are_zero (commit_block e.blocks) zero } in
      record {
        steps = installed a;
        ready = λ _. r;
        same_size = same;
        home_now = h;
        alone = λ _. ready_alone_at e (home_blocks (finished d.blocks)) r h;
        same_slots = λ i l. ap (λ x. get_or x (slot i) []) b ∙ get_or-set_other (finished d.blocks) 0 (slot i) zeros [] (λ q. omega arith) ∙ finished_low d.blocks lawful (slot i) (omega arith);
        commit_zero = zeros_are_zero (commit_block e.blocks) zero;
      }

  -- power lost on the way
  pub finishing_cut : CutInstalling (named_homes d.blocks) d e → CutFinishing d e
  finishing_cut a =
      record {
        off = installing_off (named_homes d.blocks) d e a;
        steps = a;
        cut = λ t. redo_cut (named_homes d.blocks) d (record { wide = wide; settled = t; lawful = lawful; names = refl }) e a;
      }
