use Rattle.std.proofs.Common.{◌≡◌, vec_items}
use Rattle.lexer.specs.Numerals.{number_typed}
use Rattle.script.specs.Grammar.{each_read}
use Rattle.script.proofs.RangeGoesOn.{after}
use Rattle.script.proofs.setup_lines.opening_of.Given as goal

-- the numbers so far, and those of the words that are left, are all
abbrev pub invariant-loop-word : goal.invariant-loop-word
invariant-loop-word l = after (vec_items l.codes) (each_read number_typed l.word-iterator) ≡ each_read number_typed l.fn.words
