use Rattle.std.proofs.Common.{◌≡◌, drop}
use Rattle.rights.specs.Covers.{covered}
use Rattle.rights.proofs.covering.covering_row.Given as goal

abbrev pub invariant-loop-k : goal.invariant-loop-k
invariant-loop-k l =
    covered (drop l.k l.rows) l.asked l.item
    ≡ covered l.rows l.asked l.item
