-- When a balance is zero.
use Rattle.std.specs.Prelude.{◌≡◌, ℕ, ◌^◌, ◌<◌, ◌==◌}
use Rattle.std.proofs.Common.{arith, to_z}
use Rattle.std.specs.Int.{w64}
use Rattle.std.proofs.lemmas.Int.{ints}
use Rattle.ledger.specs.Ledger.{is_zero}

-- a number of 64 bits is zero exactly if the balance is
pub zero_bits : (n : ℕ) → n < 2 ^ 64 → (n == 0) ≡ is_zero (to_z w64 n)
zero_bits n h = grind (arith, ints)
