use Rattle.std.proofs.Common.{◌≤◌}
use Rattle.drill.proofs.count_standing.Given as goal

-- Each block counts at most once.
abbrev pub invariant-loop-block : goal.invariant-loop-block
invariant-loop-block l = l.standing ≤ l.block-index
