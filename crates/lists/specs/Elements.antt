-- Tests of every element, with one of them replaced.
use Rattle.std.proofs.Common.{◌≡◌, ℕ, zero, suc, Bool, true, List, [], ◌∷◌, set, refl}
use Rattle.std.proofs.lemmas.Bool.{and_parts, and_from}
use Rattle.std.specs.List.{list_all}

-- a list whose elements all pass still passes with one of them replaced by another that does
pub all_set :
    {X : Type 0} (p : X → Bool) (xs : List X) (i : ℕ) (x : X)
    → p x ≡ true → list_all p xs ≡ true → list_all p (set xs i x) ≡ true
all_set p [] i x h k = refl
all_set p (y ∷ ys) zero x h k = and_from (p x) (list_all p ys) h (and_parts (p y) (list_all p ys) k).1
all_set p (y ∷ ys) (suc i) x h k =
    let parts = and_parts (p y) (list_all p ys) k in
    and_from (p y) (list_all p (set ys i x)) parts.0 (all_set p ys i x h parts.1)
