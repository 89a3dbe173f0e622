-- Replaying records one by one.
use Rattle.std.proofs.Common.{◌≡◌, ℕ, suc, ◌+◌, ◌-◌, ◌<◌, ◌≤◌, List, Ok, Err, Option, Result, sym, ap, ◌∙◌, add-one, arith}
use Rattle.refusals.specs.declared.refusal.Refusal.{Refusal}
use Rattle.refusals.specs.Refused.{◌>>=◌}
use Rattle.books.specs.Meaning.{Meaning}
use Rattle.records.specs.declared.record.Record.{Record}
use Rattle.applying.specs.BookState.{BookState}
use Rattle.image.specs.Home.{record_on}
use Rattle.image.specs.Verdict.{replayed_record, replayed_one, replayed}

module _ (m : Meaning) (most : ℕ) (h : List (List ℕ)) where
  -- the records that are left from number k on, one at a time
  step : (n k : ℕ) (s : BookState) → k ≤ n → replayed m most h (n + 1 - k) k s ≡ (replayed_one m most h k s >>= replayed m most h (n + 1 - (k + 1)) (k + 1))
  step n k s l =
      let fewer : n + 1 - k ≡ suc (n + 1 - (k + 1)) = omega arith in
      ap (λ z. replayed m most h z k s) fewer
      ∙ ap (λ z. replayed_one m most h k s >>= replayed m most h (n + 1 - (k + 1)) z) (sym (add-one k))

  module _ (n k : ℕ) (s : BookState) (o : Option Record) (l : k ≤ n) (found : o ≡ record_on h k) where
    here : (r : Result BookState Refusal) → replayed_record m most k o s ≡ r → replayed m most h (n + 1 - k) k s ≡ (r >>= replayed m most h (n + 1 - (k + 1)) (k + 1))
    here r e =
        step n k s l
        ∙ ap (λ z. replayed_record m most k z s >>= replayed m most h (n + 1 - (k + 1)) (k + 1)) (sym found)
        ∙ ap (λ z. z >>= replayed m most h (n + 1 - (k + 1)) (k + 1)) e

    pub replay_next : (t : BookState) → replayed_record m most k o s ≡ Ok t → replayed m most h (n + 1 - k) k s ≡ replayed m most h (n + 1 - (k + 1)) (k + 1) t
    replay_next t e = here (Ok t) e

    pub replay_stops : (f : Refusal) → replayed_record m most k o s ≡ Err f → replayed m most h (n + 1 - k) k s ≡ Err f
    replay_stops f e = here (Err f) e

  -- none is left
  pub replay_ends : (n k : ℕ) (s : BookState) → n < k → replayed m most h (n + 1 - k) k s ≡ Ok s
  replay_ends n k s l =
      let none : n + 1 - k ≡ 0 = omega arith in
      ap (λ z. replayed m most h z k s) none
