use Rattle.std.proofs.Common.{◌≡◌, ◌++◌, vec_items}
use Rattle.std.specs.List.{concat}
use Rattle.script.proofs.setup_lines.roll_of.Given as goal

-- the bytes so far, and those of the words that are left, are all
abbrev pub invariant-loop-word : goal.invariant-loop-word
invariant-loop-word l = vec_items l.roll ++ concat l.word-iterator ≡ concat l.fn.words
