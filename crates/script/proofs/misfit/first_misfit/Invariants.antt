use Rattle.std.proofs.Common.{◌≡◌}
use Rattle.script.specs.Misfit.{misfit_in, slots_value}
use Rattle.script.proofs.misfit.first_misfit.Given as goal

-- what does not fit of the words that are left is what does not fit of all
abbrev pub invariant-loop-word : goal.invariant-loop-word
invariant-loop-word l =
    misfit_in l.book (slots_value l.slots) l.word-iterator ≡ misfit_in l.fn.book (slots_value l.fn.slots) l.fn.words
