-- Sums of signed balances.
use Rattle.std.specs.Prelude.{◌≡◌, ℕ, zero, suc, ◌<◌, true, List, [], ◌∷◌, length, ℤ, pos, negsuc, ◌+ℤ◌, ◌≤ℤ◌, fold, slice_index_or, slice_set}
use Rattle.std.proofs.Common.{arith}
use Rattle.std.proofs.lemmas.Int.{ints}
use Rattle.ledger.specs.Ledger.{total, within}

-- a sum that starts at s is s and the sum
pub total_from : (s : ℤ) (zs : List ℤ) → fold ◌+ℤ◌ s zs ≡ s +ℤ total zs
total_from s [] = omega (arith, ints)
total_from s (z ∷ zs) =
    let p = total_from (s +ℤ z) zs in
    let q = total_from (pos 0 +ℤ z) zs in
    omega (arith, ints, p, q)

-- one balance replaced: the sum loses the old one and gains the new
pub total_set : (zs : List ℤ) (i : ℕ) (v d : ℤ) → i < length zs → total (slice_set zs i v) +ℤ slice_index_or zs i d ≡ total zs +ℤ v
total_set [] i v d h = absurd (omega arith)
total_set (z ∷ zs) zero v d h =
    let p = total_from (pos 0 +ℤ v) zs in
    let q = total_from (pos 0 +ℤ z) zs in
    omega (arith, ints, p, q)
total_set (z ∷ zs) (suc i) v d h =
    let p = total_from (pos 0 +ℤ z) (slice_set zs i v) in
    let q = total_from (pos 0 +ℤ z) zs in
    let r = total_set zs i v d (omega arith) in
    omega (arith, ints, p, q, r)

-- what it means to lie within the bounds
pub within_bounds : (z : ℤ) → within z ≡ true → (negsuc 999999999999 ≤ℤ z) × (z ≤ℤ pos 1000000000000)
within_bounds z h = grind (arith, ints)
