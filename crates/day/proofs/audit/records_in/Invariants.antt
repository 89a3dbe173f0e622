use Rattle.std.proofs.Common.{◌≡◌, take, vec_items}
use Rattle.day.specs.Outcome.{records_seen}
use Rattle.day.proofs.audit.records_in.Given as goal

-- the records of the answers so far
abbrev pub invariant-loop-look : goal.invariant-loop-look
invariant-loop-look l = vec_items l.records ≡ records_seen (take l.look-index l.looks)
