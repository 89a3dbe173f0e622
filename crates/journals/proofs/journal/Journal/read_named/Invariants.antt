use Rattle.std.proofs.Common.{◌≡◌, map}
use Rattle.std.specs.List.{range_with_len}
use Rattle.journals.specs.Redo.{named_home}
use Rattle.journals.proofs.journal.Journal.read_named.Given as goal

-- one home for each place so far
abbrev pub invariant-loop-place : goal.invariant-loop-place
invariant-loop-place g l = l.homes.items ≡ map (named_home l.self.blocks) (range_with_len 0 l.place)
