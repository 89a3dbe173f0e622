-- The redo journal over blocks: block 0 is the commit block, 1 to 6 are the slots, the rest are
-- home blocks. A list of homes is read here as blocks of any number, each with a content.
use Rattle.std.specs.Prelude.{ℕ, suc, ◌+◌, List, [], ◌∷◌, map, fold, drop, slice_index_or, slice_set}
use Rattle.std.specs.List.{range_with_len}
use Rattle.changes.specs.declared.home.Home.{Home}
use Rattle.changes.specs.CommitBlock.{count_of, number_of}
use Rattle.changes.specs.Homes.{home_at, contents}

-- the blocks p with a home written, and with homes written one after another
abbrev pub with_home : List (List ℕ) → Home → List (List ℕ)
with_home p h = slice_set p h.number h.content

abbrev pub overlay : List Home → List (List ℕ) → List (List ℕ)
overlay homes p = fold with_home p homes

-- contents for one block after another, the first for block k
abbrev pub blocks_from : ℕ → List (List ℕ) → List Home
blocks_from k [] = []
blocks_from k (x ∷ xs) = home_at k x ∷ blocks_from (suc k) xs

-- slot i is block 1 + i
abbrev pub slot : ℕ → ℕ
slot i = 1 + i

-- the slots that a change fills: its i-th content goes to slot i
abbrev pub slot_blocks : List Home → List Home
slot_blocks homes = blocks_from (slot 0) (contents homes)

abbrev pub commit_block : List (List ℕ) → List ℕ
commit_block p = slice_index_or p 0 []

-- what the commit block names: blocks, each with what its slot holds
abbrev pub named_home : List (List ℕ) → ℕ → Home
named_home p i = home_at (number_of (commit_block p) i) (slice_index_or p (slot i) [])

abbrev pub named_homes : List (List ℕ) → List Home
named_homes p = map (named_home p) (range_with_len 0 (count_of (commit_block p)))

-- what finishing leaves: the blocks that the commit block names hold what the slots held
abbrev pub finished : List (List ℕ) → List (List ℕ)
finished p = overlay (named_homes p) p

-- the home blocks
abbrev pub home_blocks : List (List ℕ) → List (List ℕ)
home_blocks p = drop 7 p
