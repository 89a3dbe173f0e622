use Rattle.std.proofs.Common.{◌≡◌, ℕ, ◌*◌, ◌<◌, [], length, get_or, take, drop}
use Rattle.layout.specs.Codes.{codes_form}
use Rattle.image.proofs.parts.codes_blocks.Given as goal

-- the blocks so far are made
abbrev pub invariant-loop-i : goal.invariant-loop-i
invariant-loop-i l =
    (length l.made ≡ 8)
    × ((k : ℕ) → k < l.i → get_or l.made k [] ≡ codes_form (take 8 (drop (8 * k) l.codes)))
