-- Blocks of which each has its content alone for its set.
use Rattle.std.proofs.Common.{◌≡◌, ℕ, zero, suc, ◌<◌, Bool, true, List, [], ◌∷◌, Contains, length, map, get_or, sym, refl, arith}
use Rattle.drives.specs.Disk.{Settled, May, NoGain}
use Rattle.drives.specs.Calls.{Powered}
use Rattle.trial.specs.Bytes.{blocks_of, disk_of}

abbrev pub own_sets : List (List ℕ) → List (List (List ℕ))
own_sets xs = map (λ x. x ∷ []) xs

-- what may stand in a block is what it holds, and nothing may stand beyond the blocks
pub own_only : (xs : List (List ℕ)) (i : ℕ) (x : List ℕ) → Contains (get_or (own_sets xs) i []) x → (i < length xs) × (x ≡ get_or xs i [])
own_only [] i x (k, h, e) = absurd (omega arith)
own_only (y ∷ ys) zero x (zero, h, e) = (omega arith, sym e)
own_only (y ∷ ys) zero x (suc k, h, e) = absurd (omega arith)
own_only (y ∷ ys) (suc i) x c = let r = own_only ys i x c in (omega (arith, r.0), r.1)

-- what a block holds may stand in it
pub own_itself : (xs : List (List ℕ)) (i : ℕ) → i < length xs → Contains (get_or (own_sets xs) i []) (get_or xs i [])
own_itself [] i h = absurd (omega arith)
own_itself (y ∷ ys) zero h = (0, omega arith, refl)
own_itself (y ∷ ys) (suc i) h = own_itself ys i (omega arith)

-- so nothing else may stand on the drive that the bytes are
pub bytes_settled : (on : Bool) (bs : List ℕ) → Settled (disk_of on bs)
unfolding May
bytes_settled on bs =
    record {
      only = λ i x l c. (own_only (blocks_of bs) i x c).1;
      itself = λ i h. own_itself (blocks_of bs) i h;
    }

-- nor more than before, whether it is on or not
pub bytes_kept : (on after : Bool) (bs : List ℕ) → NoGain (disk_of on bs) (disk_of after bs)
unfolding May
bytes_kept on after bs = λ i x l h. h

-- a power call that left the bytes as they were, and is done
pub bytes_powered : (on after : Bool) (bs cs : List ℕ) → after ≡ true → cs ≡ bs → Powered (disk_of on bs) (disk_of after cs)
unfolding May
bytes_powered on after bs cs done same =
    rw same (record {
      on = done;
      same_size = refl;
      chosen = λ i h. own_itself (blocks_of bs) i h;
      settled = bytes_settled after bs;
    })
