-- A list that is made of parts of the same length.
use Rattle.std.proofs.Common.{◌≡◌, ℕ, zero, suc, ◌+◌, ◌*◌, ◌<◌, List, [], ◌∷◌, ◌++◌, length, get_or, ap, ◌∙◌, arith}
use Rattle.std.specs.List.{flat_map}
use Rattle.std.proofs.lemmas.List.{get_or_append_left, get_or-append_right}
use Rattle.std.proofs.Math.ListN.{length-append}

module _ {X Y : Type 0} (f : X → List Y) (n : ℕ) (each : (x : X) → length (f x) ≡ n) (d : X) (e : Y) where
  pub length-parts : (xs : List X) → length (flat_map f xs) ≡ length xs * n
  length-parts [] = omega arith
  length-parts (x ∷ xs) = omega (arith, length-append (f x) (flat_map f xs), each x, length-parts xs)

  -- element r of part j
  pub get_or-parts : (xs : List X) (j r : ℕ) → j < length xs → r < n → get_or (flat_map f xs) (j * n + r) e ≡ get_or (f (get_or xs j d)) r e
  get_or-parts [] j r h k = absurd (omega arith)
  get_or-parts (x ∷ xs) zero r h k =
      ap (λ i. get_or (f x ++ flat_map f xs) i e) (omega arith)
      ∙ get_or_append_left (f x) (flat_map f xs) e r (omega (arith, each x))
  get_or-parts (x ∷ xs) (suc j) r h k =
      get_or-append_right (f x) (flat_map f xs) n (suc j * n + r) e (each x) (omega arith)
      ∙ ap (λ i. get_or (flat_map f xs) i e) (omega arith)
      ∙ get_or-parts xs j r (omega arith) k
