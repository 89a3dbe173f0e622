-- Arrays that a closure makes, one element for each index or for each element of another, where
-- each call leaves the closure as it was.
use Rattle.std.proofs.Common.{◌≡◌, ℕ, zero, suc, ◌+◌, ◌<◌, ◌≤◌, List, length, get_or, map, subst, sym, ap, ◌∙◌, inl, inr, arith}
use denote.Param.Members.{Mut, Called}
use Rattle.std.specs.Array.{IsFromFnResult, IsFromFnResultFrom, IsMapOf, MapsFrom}
use Rattle.std.specs.List.{range_with_len}
use Rattle.std.proofs.lemmas.Bool.{cases_lt}
use Rattle.std.proofs.lemmas.List.{length-map, get_or-map}
use Rattle.std.proofs.lemmas.List.FromFn.{fill_by_all}

module _ {F B : Type 0} (g : Mut F (ℕ × Unit {0}) B) (f : F) (h : ℕ → B) (ys : List B) (n : ℕ) (d : B)
    (each : (k : ℕ) (y : B) (q : F) → k < n → Called g f (k, tt) y q → (q ≡ f) × (y ≡ h k)) where
  -- the elements from i on
  element_from : (i m : ℕ) → i + m ≤ n → IsFromFnResultFrom g f ys i m → (k : ℕ) → i ≤ k → k < i + m → get_or ys k d ≡ h k
  element_from i zero b r k l u = absurd (omega arith)
  element_from i (suc m) b (q, y, at, call, rest) k l u =
      let this = each i y q (omega arith) call in
      elim (cases_lt i k) [
        | inl later ↦ element_from (i + 1) m (omega arith) (subst (λ z. IsFromFnResultFrom g z ys (i + 1) m) this.0 rest) k (omega arith) (omega arith)
        | inr here ↦ (let e : i ≡ k = omega arith in ap (λ z. get_or ys z d) (sym e) ∙ at.1 d ∙ this.1 ∙ ap h e)
      ]

  pub made_by : IsFromFnResult g f ys n → ys ≡ map h (range_with_len 0 n)
  made_by r = fill_by_all h ys n d r.long (λ k l. element_from 0 n (omega arith) r.each k (omega arith) (omega arith))

module _ {F A B : Type 0} (g : Mut F (A × Unit {0}) B) (f : F) (h : A → B) (xs : List A) (ys : List B) (n : ℕ) (a : A) (d : B)
    (each : (x : A) (y : B) (q : F) → Called g f (x, tt) y q → (q ≡ f) × (y ≡ h x)) where
  -- the elements from i on
  image_from : (i m : ℕ) → MapsFrom g f xs ys i m → (k : ℕ) → i ≤ k → k < i + m → get_or ys k d ≡ h (get_or xs k a)
  image_from i zero r k l u = absurd (omega arith)
  image_from i (suc m) (q, x, y, from, at, call, rest) k l u =
      let this = each x y q call in
      elim (cases_lt i k) [
        | inl later ↦ image_from (i + 1) m (subst (λ z. MapsFrom g z xs ys (i + 1) m) this.0 rest) k (omega arith) (omega arith)
        | inr here ↦ (
            let e : i ≡ k = omega arith in
            ap (λ z. get_or ys z d) (sym e) ∙ at.1 d ∙ this.1 ∙ ap h (sym (from.1 a)) ∙ ap (λ z. h (get_or xs z a)) e)
      ]

  pub mapped_by : length xs ≡ n → IsMapOf g f xs ys n → ys ≡ map h xs
  mapped_by l r =
      fill_by_all (λ k. h (get_or xs k a)) ys n d r.long (λ k b. image_from 0 n r.each k (omega arith) (omega arith))
      ∙ sym (fill_by_all (λ k. h (get_or xs k a)) (map h xs) n d (simp length-map l) (λ k b. get_or-map h xs k a d (omega arith)))
