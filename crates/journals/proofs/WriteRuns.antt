-- Runs of writes to blocks one after another, and what initializing leaves.
use Rattle.std.proofs.Common.{◌≡◌, ℕ, ◌+◌, ◌-◌, ◌<◌, ◌≤◌, false, ◌⊎◌, List, [], ◌++◌, length, get_or, take, drop, replicate, sym, ap, ◌∙◌, inl, inr, arith}
use Rattle.std.proofs.lemmas.List.{take_all, length-set, length-drop, length-append, get_or-set_same, get_or-set_other, get_or-drop, get_or_append_left, get_or-append_right, get_or-replicate, ext_get_or}
use Rattle.std.proofs.lemmas.Bool.{cases_eq, cases_lt}
use Rattle.drives.specs.Disk.{Disk, size}
use Rattle.drives.specs.Calls.{Flushed}
use Rattle.changes.specs.CommitBlock.{zeros}
use Rattle.journals.specs.Redo.{blocks_from}
use Rattle.journals.specs.JournalState.{home_of, present, Ready}
use Rattle.journals.specs.Steps.{BlocksWritten}
use Rattle.journals.specs.Initializing.{zeroed_blocks, blocks_from_8, block_7, InitialSteps, CutInitialSteps, Initialized, CutInitializing, in_zeroing, in_filling, in_first_flush, in_block_7, in_last_flush}
use Rattle.journals.specs.Laws.Overlay.{blocks_from-inside, blocks_from-elsewhere}
use Rattle.journals.specs.Laws.ZeroCommit.{zeros_are_zero}
use Rattle.journals.proofs.WriteOneMore.{written_size}
use Rattle.journals.proofs.ChangeIsAtomic.{ready_alone_at}

-- all but the first of 27 contents
pub but_first : (xs : List (List ℕ)) → length xs ≡ 27 → take 26 (drop 1 xs) ≡ drop 1 xs
but_first xs l = take_all 26 (drop 1 xs) (omega (arith, length-drop 1 xs))

-- contents were written to one block after another
module _ (k : ℕ) (xs : List (List ℕ)) (d e : Disk) (u : BlocksWritten (blocks_from k xs) d e) where
  -- those blocks hold them
  run_inside : (i : ℕ) → i < length xs → k + i < size d → present e (k + i) ≡ get_or xs i []
  run_inside i h l = ap (λ z. get_or z (k + i) []) u.blocks ∙ blocks_from-inside k xs d.blocks i h l

  -- the others hold what they held
  run_elsewhere : (j : ℕ) → (j < k) ⊎ (k + length xs ≤ j) → present e j ≡ present d j
  run_elsewhere j o = ap (λ z. get_or z j []) u.blocks ∙ blocks_from-elsewhere k xs d.blocks j o

-- after all the runs and the first flush the drive is as large as it was
pub flushed_wide : (xs : List (List ℕ)) (d a b f : Disk) → BlocksWritten zeroed_blocks d a → BlocksWritten (blocks_from_8 xs) a b → Flushed b f → 34 ≤ size d → 7 < size f
flushed_wide xs d a b f u v w h = omega (arith, ap length w.blocks, written_size (blocks_from_8 xs) a b v, written_size zeroed_blocks d a u)

module _ (xs : List (List ℕ)) (d e : Disk) (l : InitialSteps xs d e) (long : length xs ≡ 27) (wide : 34 ≤ size d) where
  rest : length (drop 1 xs) ≡ 26
  rest = omega (arith, length-drop 1 xs)

  zeroed_size : size l.zeroed ≡ size d
  zeroed_size = written_size zeroed_blocks d l.zeroed l.zeroes

  filled_size : size l.filled ≡ size d
  filled_size = written_size (blocks_from_8 xs) l.zeroed l.filled l.fills ∙ zeroed_size

  flushed_size : size l.flushed ≡ size d
  flushed_size = ap length l.flushes.blocks ∙ filled_size

  initialized_size : size e ≡ size d
  initialized_size = ap length (l.ends.blocks ∙ l.completes.blocks) ∙ length-set l.flushed.blocks 7 (block_7 xs) ∙ flushed_size

  -- block 7 holds the first content
  at_block_7 : present e 7 ≡ block_7 xs
  at_block_7 =
      ap (λ z. get_or z 7 []) (l.ends.blocks ∙ l.completes.blocks)
      ∙ get_or-set_same l.flushed.blocks 7 (block_7 xs) [] (omega (arith, flushed_size))

  -- any other block is as the runs left it
  elsewhere : (k : ℕ) → (k ≡ 7 → ⊥) → present e k ≡ present l.filled k
  elsewhere k ne =
      ap (λ z. get_or z k []) (l.ends.blocks ∙ l.completes.blocks)
      ∙ get_or-set_other l.flushed.blocks 7 k (block_7 xs) [] ne
      ∙ ap (λ z. get_or z k []) l.flushes.blocks

  -- blocks 0 to 6 are zero
  own_zero : (k : ℕ) → k < 7 → present e k ≡ zeros
  own_zero k h =
      let below : present l.filled k ≡ present l.zeroed k = run_elsewhere 8 (drop 1 xs) l.zeroed l.filled l.fills k (inl (omega arith)) in
      let first : 0 + k ≡ k = omega arith in
      elsewhere k (λ q. omega arith)
      ∙ below
      ∙ sym (ap (present l.zeroed) first)
      ∙ run_inside 0 (replicate 7 zeros) d l.zeroed l.zeroes k (omega arith) (omega arith)
      ∙ get_or-replicate 7 k zeros [] h

  -- block 8 + i holds content 1 + i
  at_part : (i : ℕ) → i < 26 → present e (8 + i) ≡ get_or xs (1 + i) []
  at_part i h =
      elsewhere (8 + i) (λ q. omega arith)
      ∙ run_inside 8 (drop 1 xs) l.zeroed l.filled l.fills i (omega (arith, rest)) (omega (arith, zeroed_size))
      ∙ get_or-drop 1 xs i []

  -- blocks from 34 on hold what they held
  beyond : (k : ℕ) → 34 ≤ k → present e k ≡ present d k
  beyond k h =
      elsewhere k (λ q. omega arith)
      ∙ run_elsewhere 8 (drop 1 xs) l.zeroed l.filled l.fills k (inr (omega (arith, rest)))
      ∙ run_elsewhere 0 (replicate 7 zeros) d l.zeroed l.zeroes k (inr (omega arith))

  -- home block by home block
  each : (i : ℕ) → present e (7 + i) ≡ get_or (xs ++ drop 27 (home_of d)) i []
  each i =
      elim (cases_lt i 27) [
        | inl low ↦ (
            let front = get_or_append_left xs (drop 27 (home_of d)) [] i (omega (arith, long)) in
            elim (cases_eq i 0) [
              | inl z ↦ ap (λ k. present e (7 + k)) z ∙ at_block_7 ∙ sym (ap (λ k. get_or xs k []) z) ∙ sym front
              | inr nz ↦ (
                  let up : 8 + (i - 1) ≡ 7 + i = omega arith in
                  let back : 1 + (i - 1) ≡ i = omega arith in
                  sym (ap (present e) up) ∙ at_part (i - 1) (omega arith) ∙ ap (λ k. get_or xs k []) back ∙ sym front)
            ])
        | inr high ↦ (
            let there : 7 + (27 + (i - 27)) ≡ 7 + i = omega arith in
            beyond (7 + i) (omega arith)
            ∙ sym (ap (present d) there)
            ∙ sym (get_or-drop 7 d.blocks (27 + (i - 27)) [])
            ∙ sym (get_or-drop 27 (home_of d) (i - 27) [])
            ∙ sym (get_or-append_right xs (drop 27 (home_of d)) 27 i [] long high))
      ]

  initialized_home : home_of e ≡ xs ++ drop 27 (home_of d)
  initialized_home =
      ext_get_or [] (home_of e) (xs ++ drop 27 (home_of d))
      (omega (arith, initialized_size, length-drop 7 e.blocks, length-append xs (drop 27 (home_of d)), length-drop 27 (home_of d), length-drop 7 d.blocks))
      (λ i h. get_or-drop 7 e.blocks i [] ∙ each i)

  pub initialized : Initialized xs d e
  initialized =
      let r : Ready e = record { on = l.ends.on; wide = omega (arith, initialized_size); settled = l.ends.settled; commit_zero = zeros_are_zero (present e 0) (own_zero 0 (omega arith)) } in
      record {
        steps = l;
        ready = r;
        same_size = initialized_size;
        home_now = initialized_home;
        alone = ready_alone_at e (xs ++ drop 27 (home_of d)) r initialized_home;
        own_blocks = own_zero;
      }

-- cut on the way: power is off, and the drive as large as it was
module _ (xs : List (List ℕ)) (d e : Disk) where
  initializing_off : CutInitialSteps xs d e → e.on ≡ false
  initializing_off (in_zeroing w) = w.off
  initializing_off (in_filling {a} u w) = w.off
  initializing_off (in_first_flush {a} {b} u v w) = w.off
  initializing_off (in_block_7 {a} {b} {f} u v x w) = w.off
  initializing_off (in_last_flush {a} {b} {f} {h} u v x y w) = w.off

  filled : (a b : Disk) → BlocksWritten zeroed_blocks d a → BlocksWritten (blocks_from_8 xs) a b → size b ≡ size d
  filled a b u v = written_size (blocks_from_8 xs) a b v ∙ written_size zeroed_blocks d a u

  initializing_size : CutInitialSteps xs d e → size e ≡ size d
  initializing_size (in_zeroing w) = w.same_size
  initializing_size (in_filling {a} u w) = w.same_size ∙ written_size zeroed_blocks d a u
  initializing_size (in_first_flush {a} {b} u v w) = w.same_size ∙ filled a b u v
  initializing_size (in_block_7 {a} {b} {f} u v x w) = w.same_size ∙ ap length x.blocks ∙ filled a b u v
  initializing_size (in_last_flush {a} {b} {f} {h} u v x y w) =
      w.same_size ∙ ap length y.blocks ∙ length-set f.blocks 7 (block_7 xs) ∙ ap length x.blocks ∙ filled a b u v

  pub cut_initializing : CutInitialSteps xs d e → CutInitializing xs d e
  cut_initializing w = record { off = initializing_off w; same_size = initializing_size w; steps = w }
