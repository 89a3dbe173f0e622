-- Blocks in a run of bytes: block k is the 64 bytes from 64 * k on. Bytes past the last whole block
-- are in no block.
use Rattle.std.specs.Prelude.{ℕ, ◌+◌, ◌*◌, ◌/◌, Bool, true, List, [], ◌∷◌, ◌++◌, map, length, take, drop}
use Rattle.std.specs.List.{range_with_len}
use Rattle.drives.specs.Disk.{Disk}

-- the blocks that the bytes hold: their number divided by 64, rounded down
unfoldable pub blocks_of : List ℕ → List (List ℕ)
blocks_of bs = map (λ k. take 64 (drop (64 * k) bs)) (range_with_len 0 (length bs / 64))

-- the bytes that stand in blocks, and those behind them, which are in none
abbrev pub in_blocks : List ℕ → List ℕ
in_blocks bs = take (64 * (length bs / 64)) bs

abbrev pub behind_blocks : List ℕ → List ℕ
behind_blocks bs = drop (64 * (length bs / 64)) bs

-- the bytes with block k replaced, and all others as they were
abbrev pub with_block : List ℕ → ℕ → List ℕ → List ℕ
with_block bs k x = take (64 * k) bs ++ (x ++ drop (64 * k + 64) bs)

-- a drive of these blocks: what a block holds is the only content that may stand, and a power call
-- is always done
abbrev pub disk_with : Bool → List (List ℕ) → Disk
disk_with on blocks = record {
  on = on;
  blocks = blocks;
  sets = map (λ x. x ∷ []) blocks;
  certain = true;
}

-- the drive that the bytes are
abbrev pub disk_of : Bool → List ℕ → Disk
disk_of on bs = disk_with on (blocks_of bs)
