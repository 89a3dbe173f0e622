-- A block that a change does not name holds what it held.
use Rattle.std.proofs.Common.{◌≡◌, ◌≢◌, ℕ, List, [], ◌∷◌, ◌++◌, get_or, set, sym, refl, ◌∙◌}
use Rattle.std.proofs.lemmas.List.{get_or-set_other}
use Rattle.changes.specs.declared.home.Home.{Home}
use Rattle.journals.specs.Redo.{overlay}

-- block k is none of them
abbrev pub Misses : ℕ → List Home → Type 0
Misses k [] = Unit {0}
Misses k (x ∷ xs) = (x.number ≢ k) × Misses k xs

pub misses_push : (xs : List Home) (y : Home) (k : ℕ) → Misses k xs → (y.number ≢ k)
    → Misses k (xs ++ (y ∷ []))
misses_push [] y k m n = (n, tt)
misses_push (x ∷ xs) y k m n = (m.0, misses_push xs y k m.1 n)

pub elsewhere : (xs : List Home) (p : List (List ℕ)) (k : ℕ) → Misses k xs
    → get_or (overlay xs p) k [] ≡ get_or p k []
elsewhere [] p k m = refl
elsewhere (x ∷ xs) p k m =
    elsewhere xs (set p x.number x.content) k m.1
    ∙ get_or-set_other p x.number k x.content [] (λ e. m.0 (sym e))
