-- Where power may fail in steps 5 to 8, and what finishing leaves then.
use Rattle.std.proofs.Common.{◌≡◌, ℕ, ◌<◌, ◌≤◌, false, ◌⊎◌, List, [], length, get_or, set, sym, refl, ap, ◌∙◌, subst, inl, inr, arith}
use Rattle.std.proofs.lemmas.List.{length-set}
use Rattle.std.proofs.lemmas.Bool.{cases_eq}
use Rattle.drives.specs.Disk.{Disk, Settled, GainsOnly, size}
use Rattle.changes.specs.declared.home.Home.{Home}
use Rattle.changes.specs.CommitBlock.{count_of, zeros, LawfulCommit}
use Rattle.journals.specs.Redo.{overlay, slot, commit_block, named_homes, home_blocks, finished}
use Rattle.journals.specs.JournalState.{CrashState, Stands, LeavesOnly}
use Rattle.journals.specs.Steps.{GainsAtMost, CutStoringBlocks, CutStoringCommitBlock, Installed, CutInstalling, in_write, in_flush, in_commit_write, in_commit_flush, in_homes, in_zeroing}
use Rattle.journals.specs.Laws.Overlay.{Names, names_home, names_high, overlay_length, overlay_agree, overlay_either, home_same, named_same, finished_nothing, finished_length, finished_low}
use Rattle.journals.specs.Laws.ZeroCommit.{lawful_same, zeros_are_lawful}
use Rattle.journals.proofs.WriteOneMore.{written_size}

-- every way that power may fail is lawful, and what finishing leaves of it at home is as P says
abbrev pub FinishesAs : Disk → (List (List ℕ) → Type 0) → Type 0
FinishesAs d P = (p : List (List ℕ)) → CrashState d p → LawfulCommit (length p) (commit_block p) × P (home_blocks (finished p))

-- what finishing leaves of d
abbrev pub IsFinishedHome : Disk → List (List ℕ) → Type 0
IsFinishedHome d h = h ≡ home_blocks (finished d.blocks)

-- a settled drive whose commit block names these homes
pub record Redoing (homes : List Home) (d : Disk) : Type 0 where
  pub wide : 7 ≤ size d
  pub settled : Settled d
  pub lawful : LawfulCommit (size d) (commit_block d.blocks)
  pub names : named_homes d.blocks ≡ homes

-- p is as q, but for home blocks that finishing writes
pub near_finishes :
    (q p : List (List ℕ)) → LawfulCommit (length q) (commit_block q) → 7 ≤ length q → length p ≡ length q
    → ((k : ℕ) → k < length p → (get_or p k [] ≡ get_or q k []) ⊎ Names (named_homes q) k)
    → LawfulCommit (length p) (commit_block p) × (home_blocks (finished p) ≡ home_blocks (finished q))
near_finishes q p l w s near =
    let low : (k : ℕ) → k < 7 → get_or p k [] ≡ get_or q k [] = λ k h. elim (near k (omega arith)) [ inl x ↦ x | inr v ↦ absurd (omega (arith, (names_high q (length q) l k v).0)) ] in
    let same : named_homes p ≡ named_homes q = named_same p q l.few (low 0 (omega arith)) (λ i h. low (slot i) (omega arith)) in (
      lawful_same (length p) (length q) (commit_block p) (commit_block q) s (low 0 (omega arith)) l,
      ap (λ hs. home_blocks (overlay hs p)) same
          ∙ home_same (overlay (named_homes q) p) (overlay (named_homes q) q) (overlay_length (named_homes q) p ∙ s ∙ sym (overlay_length (named_homes q) q))
          (λ k u v. overlay_agree (named_homes q) p q k s (omega (arith, overlay_length (named_homes q) p)) (near k (omega (arith, overlay_length (named_homes q) p)))),
    )

pub finishes_stands : (P : List (List ℕ) → Type 0) (d : Disk) → FinishesAs d P → (h : List (List ℕ)) → Stands d h → P h
finishes_stands P d e h s = subst P (sym s.leaves) (e s.crash s.stood).1

pub leaves_only : (P : List (List ℕ) → Type 0) (d e : Disk) → e.on ≡ false → size e ≡ size d → FinishesAs e P → LeavesOnly P d e
leaves_only P d e o s n = record { off = o; same_size = s; finishable = λ p c. (n p c).0; stands = finishes_stands P e n }

module _ (homes : List Home) (d : Disk) (r : Redoing homes d) where
  pub redoing_finished : finished d.blocks ≡ overlay homes d.blocks
  redoing_finished = ap (λ hs. overlay hs d.blocks) r.names

  -- steps 5 and 6
  redo_finishes : (e : Disk) → size e ≡ size d → GainsAtMost homes d e → FinishesAs e (IsFinishedHome d)
  redo_finishes e s g p c =
      near_finishes d.blocks p r.lawful r.wide (c.same_size ∙ s)
      (λ k h. elim (g k (get_or p k []) (omega (arith, c.same_size, s)) (c.each k h)) [
        | inl a ↦ inl (r.settled.only k (get_or p k []) (omega (arith, c.same_size, s)) a)
        | inr w ↦ inr (subst (λ hs. Names hs k) (sym r.names) (names_home homes k (get_or p k []) w))
      ])

  redo_cut_storing : (e : Disk) → CutStoringBlocks homes d e → LeavesOnly (IsFinishedHome d) d e
  redo_cut_storing e (in_write u) = leaves_only (IsFinishedHome d) d e u.off u.same_size (redo_finishes e u.same_size u.gains)
  redo_cut_storing e (in_flush {m} u v) =
      let s : size e ≡ size d = v.same_size ∙ written_size homes d m u in
      leaves_only (IsFinishedHome d) d e v.off s (redo_finishes e s (λ k x l h. u.gains k x l (v.gains k x (omega (arith, written_size homes d m u)) h)))

  -- steps 7 and 8, from f as step 6 left it
  module _ (f : Disk) (settled : Settled f) (blocks : f.blocks ≡ finished d.blocks) where
    zero_finishes : (e : Disk) → size e ≡ size f → GainsOnly f 0 zeros e → FinishesAs e (IsFinishedHome d)
    zero_finishes e s g p c =
        let q = d.blocks in
        let long : length p ≡ length q = c.same_size ∙ s ∙ ap length blocks ∙ finished_length q in
        let at : (k : ℕ) → k < length p → (k ≡ 0 → ⊥) → get_or p k [] ≡ get_or (finished q) k [] = λ k h ne. elim (g k (get_or p k []) (omega (arith, c.same_size, s)) (c.each k h)) [ inl a ↦ settled.only k (get_or p k []) (omega (arith, c.same_size, s)) a ∙ ap (λ x. get_or x k []) blocks | inr v ↦ absurd (ne v.0) ] in
        elim (g 0 (get_or p 0 []) (omega (arith, c.same_size, s, long, r.wide)) (c.each 0 (omega (arith, long, r.wide)))) [
          | inl a ↦ near_finishes q p r.lawful r.wide long (λ k h. elim (cases_eq k 0) [
            | inl z ↦ inl (rw z (settled.only 0 (get_or p 0 []) (omega (arith, c.same_size, s)) a ∙ ap (λ x. get_or x 0 []) blocks ∙ finished_low q r.lawful 0 (omega arith)))
            | inr ne ↦ elim (overlay_either (named_homes q) q k) [ inl u ↦ inl (at k h ne ∙ u) | inr v ↦ inr v ]
          ])
          | inr z ↦ (
            lawful_same (length p) (length p) (commit_block p) zeros refl z.1 (zeros_are_lawful (length p)),
            ap home_blocks (finished_nothing p (ap count_of z.1)) ∙ home_same p (finished q) (long ∙ sym (finished_length q)) (λ k u v. at k v (omega arith)),
          )
        ]

    zero_cut : (e : Disk) → CutStoringCommitBlock zeros f e → LeavesOnly (IsFinishedHome d) d e
    zero_cut e (in_commit_write u) =
        leaves_only (IsFinishedHome d) d e u.off (u.same_size ∙ ap length blocks ∙ finished_length d.blocks) (zero_finishes e u.same_size u.gains)
    zero_cut e (in_commit_flush {m} u v) =
        let w : size m ≡ size f = ap length u.blocks ∙ length-set f.blocks 0 zeros in
        let s : size e ≡ size f = v.same_size ∙ w in
        leaves_only (IsFinishedHome d) d e v.off (s ∙ ap length blocks ∙ finished_length d.blocks) (zero_finishes e s (λ k x l h. u.gains k x l (v.gains k x (omega (arith, w)) h)))

  -- cut anywhere in steps 5 to 8
  pub redo_cut : (e : Disk) → CutInstalling homes d e → LeavesOnly (IsFinishedHome d) d e
  redo_cut e (in_homes u) = redo_cut_storing e u
  redo_cut e (in_zeroing {m} s u) =
      zero_cut m s.flushes.settled (s.flushes.blocks ∙ s.writes.blocks ∙ sym redoing_finished) e u

-- the end of steps 5 to 8
pub installed_blocks : (homes : List Home) (d e : Disk) → Installed homes d e → e.blocks ≡ set (overlay homes d.blocks) 0 zeros
installed_blocks homes d e a =
    a.zeroes.flushes.blocks ∙ a.zeroes.writes.blocks ∙ ap (λ z. set z 0 zeros) (a.stores.flushes.blocks ∙ a.stores.writes.blocks)

-- wherever the steps were cut, power is off
pub storing_off : (homes : List Home) (d e : Disk) → CutStoringBlocks homes d e → e.on ≡ false
storing_off homes d e (in_write u) = u.off
storing_off homes d e (in_flush {m} u v) = v.off

pub commit_off : (c : List ℕ) (d e : Disk) → CutStoringCommitBlock c d e → e.on ≡ false
commit_off c d e (in_commit_write u) = u.off
commit_off c d e (in_commit_flush {m} u v) = v.off

pub installing_off : (homes : List Home) (d e : Disk) → CutInstalling homes d e → e.on ≡ false
installing_off homes d e (in_homes u) = storing_off homes d e u
installing_off homes d e (in_zeroing {m} s u) = commit_off zeros m e u
