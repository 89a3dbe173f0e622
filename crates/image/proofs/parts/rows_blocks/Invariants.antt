use Rattle.std.proofs.Common.{◌≡◌, ℕ, ◌*◌, ◌<◌, [], length, get_or, take, drop}
use Rattle.layout.specs.Rows.{rows_form}
use Rattle.image.proofs.parts.rows_blocks.Given as goal

-- the blocks so far are made
abbrev pub invariant-loop-i : goal.invariant-loop-i
invariant-loop-i l =
    (length l.made ≡ 8)
    × ((k : ℕ) → k < l.i → get_or l.made k [] ≡ rows_form (take 4 (drop (4 * k) l.rows)))
