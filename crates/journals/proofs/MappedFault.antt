-- What an answer tells of the call behind it, where its fault was put in other words.
use Rattle.std.proofs.Common.{◌≡◌, true, false, Ok, Err, Result, MatchResult, sym, ap, ◌∙◌, subst}
use Rattle.std.proofs.lemmas.Bool.{false≢true}
use Rattle.std.specs.Result.{is_ok}

module _ {T E : Type 0} (A C : Type 0) where
  done : (r : Result T E) → MatchResult r (λ _. A) (λ _. C) → is_ok r ≡ true → A
  done (Ok x) c e = c
  done (Err x) c e = absurd (false≢true e)

  cut : (r : Result T E) → MatchResult r (λ _. A) (λ _. C) → is_ok r ≡ false → C
  cut (Ok x) c e = absurd (false≢true (sym e))
  cut (Err x) c e = c

  -- the call was done, or was cut
  pub was_done : {F : Type 0} (r : Result T E) (m : Result T F) → MatchResult r (λ _. A) (λ _. C) → is_ok m ≡ is_ok r → (x : T) → m ≡ Ok x → A
  was_done r m c same x e = done r c (sym same ∙ ap is_ok e)

  pub was_cut : {F : Type 0} (r : Result T E) (m : Result T F) → MatchResult r (λ _. A) (λ _. C) → is_ok m ≡ is_ok r → (f : F) → m ≡ Err f → C
  was_cut r m c same f e = cut r c (sym same ∙ ap is_ok e)

-- an answer whose every fault was put as w
pub put_as :
    {T E F : Type 0} (A B C : Type 0) (P : F → Type 0) (w : F) (r : Result T E) (m : Result T F) → MatchResult r (λ _. A) (λ _. C)
    → MatchResult r (λ x. m ≡ Ok x) (λ _. m ≡ Err w) → (A → B) → (C → P w) → MatchResult m (λ _. B) P
put_as A B C P w (Ok x) m a e t u = subst (λ z. MatchResult z (λ _. B) P) (sym e) (t a)
put_as A B C P w (Err y) m c e t u = subst (λ z. MatchResult z (λ _. B) P) (sym e) (u c)
