-- A commit block is read back as it was written, and a lawful block is what its own reading writes.
use Rattle.std.specs.Prelude.{◌≡◌, ℕ, ◌<◌, ◌≤◌, List, length, slice_index}
use Rattle.encoding.specs.Numbers.{Block}
use Rattle.changes.specs.CommitBlock.{commit_block_of, named_in, Rises, LawfulCommit}

-- numbers that a commit block can hold: six at most, of two bytes each
pub record FitsCommit (ns : List ℕ) : Type 0 where
  pub few : length ns ≤ 6
  pub two_bytes : (i : ℕ) → slice_index ns i < 65536

-- what was written is lawful, and is read back
pub record ReadsBack (size : ℕ) (ns : List ℕ) : Type 0 where
  pub lawful : LawfulCommit size (commit_block_of ns)
  pub named : named_in (commit_block_of ns) ≡ ns

pub record RoundTrip : Type 0 where
  pub written : (size : ℕ) (ns : List ℕ) → FitsCommit ns → Rises size ns → ReadsBack size ns
  pub read :
      (size : ℕ) (c : List ℕ) → Block c → LawfulCommit size c → commit_block_of (named_in c) ≡ c
