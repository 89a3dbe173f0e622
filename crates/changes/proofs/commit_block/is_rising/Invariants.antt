use Rattle.std.proofs.Common.{◌≡◌, drop}
use Rattle.changes.specs.CommitBlock.{named_in, rising}
use Rattle.changes.proofs.commit_block.is_rising.Given as goal

-- the numbers rise if those that are left rise from above the last
abbrev pub invariant-loop-place : goal.invariant-loop-place
invariant-loop-place l =
    rising l.size 6 (named_in l.commit) ≡ rising l.size l.last (drop l.place (named_in l.commit))
