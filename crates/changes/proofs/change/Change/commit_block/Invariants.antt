use Rattle.std.proofs.Common.{◌≡◌, take, length}
use Rattle.changes.specs.Homes.{numbers}
use Rattle.changes.specs.Laws.Encoding.{written_so_far}
use Rattle.changes.proofs.change.Change.commit_block.Given as goal

-- the numbers of the homes so far stand in the block
abbrev pub invariant-loop-place : goal.invariant-loop-place
invariant-loop-place l = l.block ≡ written_so_far (length l.self) (numbers (take l.place l.self))
