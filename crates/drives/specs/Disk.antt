-- What a drive means: its power, what each block holds now, and what each block may hold once power
-- has failed.
use Rattle.std.specs.Prelude.{◌≡◌, ℕ, ◌<◌, Bool, ◌⊎◌, List, [], Contains, length, slice_index_or}

-- on: whether there is power; blocks: the present contents, whose number is the drive's size; sets:
-- for each block the list of the contents that may stand in it after power fails; certain: whether
-- it is certain that a power call, if it is made now, is done. A drive that cannot know says no
pub record Disk : Type 0 where
  pub on : Bool
  pub blocks : List (List ℕ)
  pub sets : List (List (List ℕ))
  pub certain : Bool

-- what block i holds now; nothing beyond the drive. (That it is 64 bytes is said by read, which
-- fills a buffer of 64 bytes with it.)
abbrev pub present : Disk → ℕ → List ℕ
present d i = slice_index_or d.blocks i []

abbrev pub size : Disk → ℕ
size d = length d.blocks

-- content x may stand in block i after power fails: it is in the block's list
unfoldable pub May : Disk → ℕ → List ℕ → Type 0
May d i x = Contains (slice_index_or d.sets i []) x

-- of the blocks that the drive has: each present content is in its block's list, and alone there
pub record Settled (d : Disk) : Type 0 where
  pub only : (i : ℕ) (x : List ℕ) → i < size d → May d i x → x ≡ present d i
  pub itself : (i : ℕ) → i < size d → May d i (present d i)

-- from d to e, no block's list gains a member
abbrev pub NoGain : Disk → Disk → Type 0
NoGain d e = (i : ℕ) (x : List ℕ) → i < size d → May e i x → May d i x

-- from d to e, the list of block b gains at most x, and no other block's gains
abbrev pub GainsOnly : Disk → ℕ → List ℕ → Disk → Type 0
GainsOnly d b x e =
    (i : ℕ) (y : List ℕ) → i < size d → May e i y → May d i y ⊎ ((i ≡ b) × (y ≡ x))
