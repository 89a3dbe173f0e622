-- Blocks that are compared one by one are the same list or differ at a first one.
use Rattle.std.proofs.Common.{◌≡◌, ℕ, suc, Bool, true, false, not, List, [], ◌∷◌, length, Some, None, Option, refl, ap, ◌∙◌, arith}
use Rattle.std.specs.Option.{option_or}
use Rattle.std.specs.Prelude.{if◌then◌else◌}
use Rattle.std.specs.Str.{bytes_eq}
use Rattle.std.proofs.lemmas.Slice.Eq.{bytes_eq-Decides}
use Rattle.image.specs.Verdict.{differing}

same_cons : (b x : List ℕ) (bs xs : List (List ℕ)) → b ≡ x → bs ≡ xs → b ∷ bs ≡ x ∷ xs
same_cons b x bs xs p q = cc

-- the next block, and then the rest
none_tested :
    (k : ℕ) (b x : List ℕ) (bs xs : List (List ℕ)) → (differing (suc k) bs xs ≡ None → bs ≡ xs)
    → (t : Bool) → bytes_eq b x ≡ t → (if not t then Some k else differing (suc k) bs xs) ≡ None → b ∷ bs ≡ x ∷ xs
none_tested k b x bs xs rest true t e = same_cons b x bs xs ((bytes_eq-Decides b x).0 t) (rest e)
none_tested k b x bs xs rest false t e = absurd (let z : ◌≡◌ {A = ℕ} 0 1 = cc in omega arith)

-- none differs: they are the blocks expected
pub none_differs : (k : ℕ) (bs xs : List (List ℕ)) → length bs ≡ length xs → differing k bs xs ≡ None → bs ≡ xs
none_differs k [] [] l e = refl
none_differs k [] (x ∷ xs) l e = absurd (omega arith)
none_differs k (b ∷ bs) [] l e = absurd (omega arith)
none_differs k (b ∷ bs) (x ∷ xs) l e = none_tested k b x bs xs (none_differs (suc k) bs xs (omega arith)) (bytes_eq b x) refl e

-- the same blocks do not differ
same_differs_none : (k : ℕ) (xs : List (List ℕ)) → differing k xs xs ≡ None
same_differs_none k [] = refl
same_differs_none k (x ∷ xs) =
    ap (λ z. if not z then Some k else differing (suc k) xs xs) ((bytes_eq-Decides x x).1 refl) ∙ same_differs_none (suc k) xs

pub same_blocks : (k : ℕ) (bs xs : List (List ℕ)) → bs ≡ xs → differing k bs xs ≡ None
same_blocks k bs xs e = ap (λ z. differing k z xs) e ∙ same_differs_none k xs

-- neither of two differs
pub both_none : (o q : Option ℕ) → option_or o q ≡ None → (o ≡ None) × (q ≡ None)
both_none None q e = (refl, e)
both_none (Some k) q e = absurd (let z : ◌≡◌ {A = ℕ} 0 1 = cc in omega arith)
