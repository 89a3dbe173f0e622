-- A step that tests its items, then the amount, then values.
use Rattle.std.proofs.Common.{◌≡◌, ℕ, Bool, true, false, ◌⊎◌, Ok, Err, Result, sym, refl, ap, ◌∙◌, inl, inr, arith}
use Rattle.std.specs.Prelude.{not, if◌then◌else◌}
use Rattle.refusals.specs.declared.places.StepPlace.{StepPlace}
use Rattle.refusals.specs.declared.places.StepPlace.TheVariants.{Items, Amount, Values}
use Rattle.books.specs.declared.draft.Draft.{Draft}
use Rattle.books.specs.Meaning.{Meaning, amount_ok, has_procedure, StepTests, AmountTestIsCeiling}

-- what a result may be once items and amount have passed: two codes, or place 3
abbrev pub ByValues : {X : Type 0} → Result X StepPlace → Type 0
ByValues (Ok x) = Unit {0}
ByValues (Err e) = e ≡ Values

-- the three tests in their order
abbrev pub tested : {X : Type 0} → Bool → Bool → Result X StepPlace → Result X StepPlace
tested t s r = if not t then Err Items else if not s then Err Amount else r

by_items : {X : Type 0} (r : Result X StepPlace) → ByValues r → r ≡ Err Items → ⊥
by_items (Ok x) h e = let z : ◌≡◌ {A = ℕ} 0 1 = cc in omega arith
by_items (Err f) h e = let z : ◌≡◌ {A = ℕ} 0 1 = cc in omega arith

by_amount : {X : Type 0} (r : Result X StepPlace) → ByValues r → r ≡ Err Amount → ⊥
by_amount (Ok x) h e = let z : ◌≡◌ {A = ℕ} 0 1 = cc in omega arith
by_amount (Err f) h e = let z : ◌≡◌ {A = ℕ} 0 1 = cc in omega arith

two_places : {X : Type 0} → ◌≡◌ {A = Result X StepPlace} (Err Items) (Err Amount) → ⊥
two_places e = let z : ◌≡◌ {A = ℕ} 0 1 = cc in omega arith

-- place 1 comes from the first test alone
items_from : {X : Type 0} (t s : Bool) (r : Result X StepPlace) → ByValues r → tested t s r ≡ Err Items → t ≡ false
items_from false s r h e = refl
items_from true true r h e = absurd (by_items r h e)
items_from true false r h e = absurd (let z : ◌≡◌ {A = ℕ} 0 1 = cc in omega arith)

-- place 2 from the second alone
amount_from : {X : Type 0} (t s : Bool) (r : Result X StepPlace) → ByValues r → tested t s r ≡ Err Amount → s ≡ false
amount_from t false r h e = refl
amount_from false true r h e = absurd (let z : ◌≡◌ {A = ℕ} 0 1 = cc in omega arith)
amount_from true true r h e = absurd (by_amount r h e)

bad_amount : {X : Type 0} (t s : Bool) (r : Result X StepPlace) → s ≡ false → (tested t s r ≡ Err Items) ⊎ (tested t s r ≡ Err Amount)
bad_amount true s r e = inr (ap (λ z. if not z then Err Amount else r) e)
bad_amount false s r e = inl refl

-- a step of a book that is these three tests: of a draft's procedure and items, of its amount, and
-- of values
pub record TestsInOrder (m : Meaning) : Type 0 where
  pub takes : Draft → Bool
  pub given : Draft → ℕ × ℕ → Result (ℕ × ℕ) StepPlace
  pub step : (d : Draft) (codes : ℕ × ℕ) → m.step d codes ≡ tested (takes d) (amount_ok m.ceiling d.amount) (given d codes)
  pub by_values : (d : Draft) (codes : ℕ × ℕ) → ByValues (given d codes)
  pub any_amount : (d : Draft) (n : ℕ) → takes (record d { amount = n }) ≡ takes d
  pub wordless : (d : Draft) → has_procedure m d.procedure ≡ false → takes d ≡ false

module _ (m : Meaning) (o : TestsInOrder m) where
  outside_refused :
      (d : Draft) (codes : ℕ × ℕ) → amount_ok m.ceiling d.amount ≡ false
      → (m.step d codes ≡ Err Items) ⊎ (m.step d codes ≡ Err Amount)
  outside_refused d codes h =
      elim (bad_amount (o.takes d) (amount_ok m.ceiling d.amount) (o.given d codes) h) [
        | inl e ↦ inl (o.step d codes ∙ e)
        | inr e ↦ inr (o.step d codes ∙ e)
      ]

  refused_outside : (d : Draft) (codes : ℕ × ℕ) → m.step d codes ≡ Err Amount → amount_ok m.ceiling d.amount ≡ false
  refused_outside d codes e =
      amount_from (o.takes d) (amount_ok m.ceiling d.amount) (o.given d codes) (o.by_values d codes) (sym (o.step d codes) ∙ e)

  pub tests_of_step : StepTests m
  tests_of_step =
      record {
        needs_word = λ d codes h. o.step d codes ∙ ap (λ t. tested t (amount_ok m.ceiling d.amount) (o.given d codes)) (o.wordless d h);
        items_alone = λ d codes codes' n e. (
            let d' : Draft = record d { amount = n } in
            let refused : o.takes d ≡ false = items_from (o.takes d) (amount_ok m.ceiling d.amount) (o.given d codes) (o.by_values d codes) (sym (o.step d codes) ∙ e) in
            o.step d' codes' ∙ ap (λ t. tested t (amount_ok m.ceiling n) (o.given d' codes')) (o.any_amount d n ∙ refused));
        needs_amount = outside_refused;
        amount_alone = λ d codes codes' a b e. outside_refused (record d { a = a; b = b }) codes' (refused_outside d codes e);
      }

  pub amount_test_of_step : AmountTestIsCeiling m
  amount_test_of_step d codes = (
    λ e. (λ i. two_places (sym i ∙ e), refused_outside d codes e),
    λ h. elim (outside_refused d codes h.1) [ inl e ↦ absurd (h.0 e) | inr e ↦ e ],
  )
