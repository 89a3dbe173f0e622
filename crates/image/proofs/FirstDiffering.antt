-- Comparing blocks one by one finds the first place at which they differ.
use Rattle.std.proofs.Common.{◌≡◌, ℕ, suc, ◌+◌, Bool, true, false, cond, not, ltb, List, [], ◌∷◌, length, Some, None, Option, refl, sym, ap, ◌∙◌, inl, inr, arith}
use Rattle.std.specs.List.{zip, position, position_or_len}
use Rattle.std.specs.Option.{option_map}
use Rattle.std.specs.Prelude.{if◌then◌else◌}
use Rattle.std.specs.Str.{bytes_eq}
use Rattle.std.proofs.lemmas.Bool.{cases_lt, cond-true, cond-false, lt-ltb, le-ltb}
use Rattle.image.specs.Verdict.{differing}

-- the number of the block at a place, if the place is below n
abbrev numbered : ℕ → ℕ → ℕ → Option ℕ
numbered k m n = cond (ltb m n) (Some (k + m)) None

further : (k m n : ℕ) → numbered k (suc m) (suc n) ≡ numbered (suc k) m n
further k m n = elim (cases_lt m n) [
  | inl l ↦ cond-true _ _ _ (lt-ltb (suc m) (suc n) (omega arith)) ∙ ap Some {x = k + suc m} {y = suc k + m} (omega arith) ∙ sym (cond-true _ _ _ (lt-ltb m n l))
  | inr g ↦ cond-false _ _ _ (le-ltb (suc m) (suc n) (omega arith)) ∙ sym (cond-false _ _ _ (le-ltb m n g))
]

abbrev pub apart : List ℕ × List ℕ → Bool
apart p = not (bytes_eq p.0 p.1)

-- the next two, by how their test comes out, and the rest
next_two :
    (k m n : ℕ) (t : Bool) (rest : Option ℕ) → rest ≡ numbered (suc k) m n
    → (if not t then Some k else rest) ≡ numbered k (cond (not (not t)) (1 + m) 0) (suc n)
next_two k m n true rest e = e ∙ sym (further k m n) ∙ ap (λ z. numbered k z (suc n)) {x = suc m} (omega arith)
next_two k m n false rest e = sym (cond-true _ _ _ (lt-ltb 0 (suc n) (omega arith)) ∙ ap Some {y = k} (omega arith))

differing_at : (k : ℕ) (bs xs : List (List ℕ)) → differing k bs xs ≡ numbered k (position_or_len apart (zip bs xs)) (length (zip bs xs))
differing_at k [] xs = refl
differing_at k (b ∷ bs) [] = refl
differing_at k (b ∷ bs) (x ∷ xs) =
    next_two k (position_or_len apart (zip bs xs)) (length (zip bs xs)) (bytes_eq b x) (differing (suc k) bs xs) (differing_at (suc k) bs xs)

by_test : (k m : ℕ) (t : Bool) → option_map (λ p. k + p) (cond t (Some m) None) ≡ cond t (Some (k + m)) None
by_test k m true = refl
by_test k m false = refl

-- so the first differing block is the first block's number and the place that was found
pub differing_found :
    (k : ℕ) (bs xs : List (List ℕ)) (r q : Option ℕ) → r ≡ position apart (zip bs xs) → r ≡ q
    → option_map (λ p. k + p) q ≡ differing k bs xs
differing_found k bs xs r q e f =
    ap (option_map (λ p. k + p)) (sym f ∙ e)
    ∙ by_test k (position_or_len apart (zip bs xs)) (ltb (position_or_len apart (zip bs xs)) (length (zip bs xs)))
    ∙ sym (differing_at k bs xs)
