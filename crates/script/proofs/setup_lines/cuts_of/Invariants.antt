use Rattle.std.proofs.Common.{◌≡◌, vec_items}
use Rattle.script.specs.Grammar.{cut_typed, each_read}
use Rattle.script.proofs.RangeGoesOn.{after}
use Rattle.script.proofs.setup_lines.cuts_of.Given as goal

-- the numbers so far, and those of the words that are left, are all
abbrev pub invariant-loop-word : goal.invariant-loop-word
invariant-loop-word l = after (vec_items l.cuts) (each_read cut_typed l.word-iterator) ≡ each_read cut_typed l.fn.words
