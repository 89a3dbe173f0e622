-- The value of digits, read from the left.
use Rattle.std.proofs.Common.{◌≡◌, ℕ, ◌+◌, ◌*◌, ◌<◌, ◌≤◌, List, [], ◌∷◌, length, get_or, drop, fold, arith}
use Rattle.std.proofs.lemmas.List.{at_drop_more}
use Rattle.std.proofs.Math.Nat.{mul-le-mul_left}
use Rattle.std.specs.Char.{digit_value}

-- the value of v's digits with more behind them
abbrev pub value_after : ℕ → ℕ → List ℕ → ℕ
value_after base v ds = fold (λ v d. v * base + digit_value d) v ds

-- more digits make no smaller value
value_grows : (base v : ℕ) (ds : List ℕ) → 1 ≤ base → v ≤ value_after base v ds
value_grows base v [] h = omega arith
value_grows base v (d ∷ ds) h = omega (arith, mul-le-mul_left v h, value_grows base (v * base + digit_value d) ds h)

-- the next digit goes behind those before
value_drop_more :
    (base v : ℕ) (ds : List ℕ) (i : ℕ)
    → i < length ds
    → value_after base v (drop i ds) ≡ value_after base (v * base + digit_value (get_or ds i 0)) (drop (i + 1) ds)
value_drop_more base v ds i h = at_drop_more (value_after base v) ds i 0 h

-- and the value is no smaller than what it makes with them
pub value_drop_least :
    (base v : ℕ) (ds : List ℕ) (i : ℕ)
    → 1 ≤ base → i < length ds
    → v * base + digit_value (get_or ds i 0) ≤ value_after base v (drop i ds)
value_drop_least base v ds i b h = rw (value_drop_more base v ds i h) (value_grows base _ (drop (i + 1) ds) b)
