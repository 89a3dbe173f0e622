-- Slips that wait, as the definitions see them.
use Rattle.std.proofs.Common.{◌≡◌, ℕ, suc, ◌+◌, ◌<◌, ◌≤◌, Bool, true, false, not, cond, List, [], ◌∷◌, length, get_or, Some, None, ltb, Option, refl, sym, ap, ◌∙◌, inl, inr, arith}
use Rattle.std.specs.Str.{bytes_eq}
use Rattle.std.specs.List.{position_or_len, remove}
use Rattle.std.proofs.lemmas.Bool.{cases_Bool, false≢true, ltb-true, ltb-false}
use Rattle.std.specs.Option.{is_some, unwrap_or}
use Rattle.std.specs.Prelude.{if◌then◌else◌}
use Rattle.desk.specs.declared.tray.WaitingSlip.{WaitingSlip}
use Rattle.desk.specs.Serving.{WaitingValue, waiting_value, waiting_values, slip_waiting, without_slip}

-- what a place that was looked for tells
module _ (p n : ℕ) (r : Option ℕ) (e : r ≡ cond (ltb p n) (Some p) None) where
  pub not_there : r ≡ None → n ≤ p
  not_there h =
      elim (cases_Bool (ltb p n)) [
        | inl y ↦ absurd (false≢true (ap is_some (sym h ∙ e ∙ ap (λ b. cond b (Some p) None) y)))
        | inr y ↦ ltb-false p n y
      ]

  pub there : (i : ℕ) → r ≡ Some i → (i ≡ p) × (p < n)
  there i h =
      elim (cases_Bool (ltb p n)) [
        | inl y ↦ (ap (λ o. unwrap_or o 0) (sym h ∙ e ∙ ap (λ b. cond b (Some p) None) y), ltb-true p n y)
        | inr y ↦ absurd (false≢true (sym (ap is_some (sym h ∙ e ∙ ap (λ b. cond b (Some p) None) y))))
      ]

module _ (name : List ℕ) where
  -- the slip waits under the name
  abbrev pub bears : WaitingSlip → Bool
  bears w = bytes_eq w.name.now name

  at_first : (w : WaitingSlip) (ws : List WaitingSlip) → bears w ≡ true → position_or_len bears (w ∷ ws) ≡ 0
  at_first w ws e = ap (λ b. cond (not b) (1 + position_or_len bears ws) 0) e

  at_later : (w : WaitingSlip) (ws : List WaitingSlip) → bears w ≡ false → position_or_len bears (w ∷ ws) ≡ 1 + position_or_len bears ws
  at_later w ws e = ap (λ b. cond (not b) (1 + position_or_len bears ws) 0) e

  -- the first that waits under it, and the rest of the tray, by the test at the front
  front_waits : (w : WaitingSlip) (ws : List WaitingSlip) (b : Bool) → bears w ≡ b → slip_waiting (waiting_values (w ∷ ws)) name ≡ (if b then Some w.slip.entered else slip_waiting (waiting_values ws) name)
  front_waits w ws b e = ap (λ z. if z then Some w.slip.entered else slip_waiting (waiting_values ws) name) e

  front_goes : (w : WaitingSlip) (ws : List WaitingSlip) (b : Bool) → bears w ≡ b → without_slip (waiting_values (w ∷ ws)) name ≡ (if b then waiting_values ws else waiting_value w ∷ without_slip (waiting_values ws) name)
  front_goes w ws b e = ap (λ z. if z then waiting_values ws else waiting_value w ∷ without_slip (waiting_values ws) name) e

  -- none waits under it
  pub none_waits : (ws : List WaitingSlip) → length ws ≤ position_or_len bears ws → slip_waiting (waiting_values ws) name ≡ None
  none_waits [] l = refl
  none_waits (w ∷ ws) l =
      elim (cases_Bool (bears w)) [
        | inl e ↦ absurd (omega (arith, l, at_first w ws e))
        | inr e ↦ front_waits w ws false e ∙ none_waits ws (omega (arith, l, at_later w ws e))
      ]

  pub none_goes : (ws : List WaitingSlip) → length ws ≤ position_or_len bears ws → without_slip (waiting_values ws) name ≡ waiting_values ws
  none_goes [] l = refl
  none_goes (w ∷ ws) l =
      elim (cases_Bool (bears w)) [
        | inl e ↦ absurd (omega (arith, l, at_first w ws e))
        | inr e ↦ front_goes w ws false e ∙ ap (λ z. waiting_value w ∷ z) (none_goes ws (omega (arith, l, at_later w ws e)))
      ]

  -- the one at the first place does
  abbrev pub place : List WaitingSlip → ℕ
  place ws = position_or_len bears ws

  pub first_waits : (ws : List WaitingSlip) (d : WaitingSlip) → place ws < length ws → slip_waiting (waiting_values ws) name ≡ Some (get_or ws (place ws) d).slip.entered
  first_waits [] d l = absurd (omega arith)
  first_waits (w ∷ ws) d l =
      elim (cases_Bool (bears w)) [
        | inl e ↦ front_waits w ws true e ∙ ap (λ z. Some (get_or (w ∷ ws) z d).slip.entered) (sym (at_first w ws e))
        | inr e ↦ (
            let next : suc (place ws) ≡ place (w ∷ ws) = omega (arith, at_later w ws e) in
            front_waits w ws false e ∙ first_waits ws d (omega (arith, l, next)) ∙ ap (λ z. Some (get_or (w ∷ ws) z d).slip.entered) next)
      ]

  -- and goes
  pub first_goes : (ws : List WaitingSlip) → place ws < length ws → without_slip (waiting_values ws) name ≡ waiting_values (remove ws (place ws))
  first_goes [] l = absurd (omega arith)
  first_goes (w ∷ ws) l =
      elim (cases_Bool (bears w)) [
        | inl e ↦ front_goes w ws true e ∙ ap (λ z. waiting_values (remove (w ∷ ws) z)) (sym (at_first w ws e))
        | inr e ↦ (
            let next : suc (place ws) ≡ place (w ∷ ws) = omega (arith, at_later w ws e) in
            front_goes w ws false e ∙ ap (λ z. waiting_value w ∷ z) (first_goes ws (omega (arith, l, next))) ∙ ap (λ z. waiting_values (remove (w ∷ ws) z)) next)
      ]

-- where no slip waits under a name, the tray is as it was
pub stays : (ts : List WaitingValue) (name : List ℕ) → None ≡ slip_waiting ts name → without_slip ts name ≡ ts
stays [] name e = refl
stays (t ∷ ts) name e =
    elim (cases_Bool (bytes_eq t.name name)) [
      | inl y ↦ absurd (false≢true (ap is_some (e ∙ ap (λ b. if b then Some t.slip else slip_waiting ts name) y)))
      | inr n ↦ ap (λ b. if b then ts else t ∷ without_slip ts name) n ∙ ap (λ z. t ∷ z) (stays ts name (e ∙ ap (λ b. if b then Some t.slip else slip_waiting ts name) n))
    ]
