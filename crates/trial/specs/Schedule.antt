-- When a trial drive loses power: a cut number says how many writes and flushes are done before the
-- next one loses it.
use Rattle.std.specs.Prelude.{ℕ, zero, suc, ◌%◌, List, [], ◌∷◌, nat_le}
use Rattle.trial.specs.declared.fuse.Fuse.{Fuse}
use Rattle.trial.specs.declared.fuse.Fuse.TheVariants.{Never, After}
use Rattle.trial.specs.declared.turn.Turn.{Turn}
use Rattle.trial.specs.declared.turn.Turn.TheVariants.{Done, Lost}

-- the number modulo 32,768 is how many are done; from 32,768 on the write that loses power lands
abbrev pub fuse_of : ℕ → Fuse
fuse_of cut = After (cut % 32768) (nat_le 32768 cut)

-- a power call takes the next cut number; with none left, power never fails again
abbrev pub next_fuse : List ℕ → Fuse
next_fuse [] = Never
next_fuse (cut ∷ cuts) = fuse_of cut

abbrev pub cuts_left : List ℕ → List ℕ
cuts_left [] = []
cuts_left (cut ∷ cuts) = cuts

-- how a write or a flush goes, and the fuse that is left behind it
abbrev pub turn : Fuse → Turn
turn Never = Done
turn (After zero lands) = Lost lands
turn (After (suc n) lands) = Done

abbrev pub fuse_left : Fuse → Fuse
fuse_left Never = Never
fuse_left (After zero lands) = After zero lands
fuse_left (After (suc n) lands) = After n lands
