-- What `filter` keeps, where the closure's answer is a test of the value.
use Rattle.std.proofs.Common.{◌≡◌, Bool, true, false, Some, None, Option, MatchOption, refl, ap, ◌∙◌}
use denote.Ref.{Bor}
use Rattle.std.specs.Bool.{if◌then◌else◌, then_some}
use Rattle.std.specs.Option.{option_and_then}

then_some_if : {X : Type 0} (b : Bool) (x : X) → then_some b x ≡ (if b then Some x else None)
then_some_if true x = refl
then_some_if false x = refl

-- answers: what the closure may answer at a reference
module _ {X : Type 0} (answers : Bor X → Bool → Type 0) (t : X → Bool) (each : (p : Bor X) (b : Bool) → answers p b → b ≡ t p.now) where
  pub kept :
      (o r : Option X)
      → MatchOption o (r ≡ None) (λ x. (b : Bool) × ((p : Bor X) × answers p b × (p.now ≡ x)) × (r ≡ then_some b x))
      → r ≡ option_and_then (λ x. if t x then Some x else None) o
  kept None r e = e
  kept (Some x) r (b, (p, called, at), e) =
      e ∙ then_some_if b x ∙ ap (λ z. if z then Some x else None) (each p b called ∙ ap t at)
