-- A pair of the stock book as the code holds it.
use Rattle.std.specs.Prelude.{ℕ, Some, None, Option, if◌then◌else◌}
use Rattle.stock.specs.declared.reels.Reels.{Reels}
use Rattle.stock.specs.Stock.{held_after, most_after, halves_stay}

-- what a procedure leaves of a pair; none where a half would leave its 32 bits
abbrev pub pair_after : ℕ → ℕ → ℕ → ℕ → Option Reels
pair_after p h m n =
    if halves_stay p h m n then Some (record { held = held_after p h n; most = most_after p m n })
    else None
