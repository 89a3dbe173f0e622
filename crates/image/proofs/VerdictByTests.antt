-- The verdict on home blocks, test by test.
use Rattle.std.proofs.Common.{◌≡◌, ℕ, List, Ok, Err, Result, sym, ap, ◌∙◌}
use Rattle.refusals.specs.declared.refusal.Refusal.{Refusal}
use Rattle.refusals.specs.Refused.{◌>>=◌}
use Rattle.books.specs.Meaning.{Meaning}
use Rattle.layout.specs.declared.head.Head.{Head}
use Rattle.layout.specs.Head.{head_of}
use Rattle.applying.specs.BookState.{BookState}
use Rattle.image.specs.Home.{block_at, opening_on}
use Rattle.image.specs.Layout.{head_block}
use Rattle.image.specs.Verdict.{checked_head, checked_opening, replayed, compared, differing_block, home_verdict}

module _ (m : Meaning) (most : ℕ) (h : List (List ℕ)) where
  -- what follows the records, the opening and the head
  abbrev after_records : Head → BookState → Result ℕ Refusal
  after_records d t = compared d.count (differing_block h t)

  abbrev after_opening : Head → BookState → Result ℕ Refusal
  after_opening d s = replayed m most h d.count 1 s >>= after_records d

  -- the head passed
  module _ (b : List ℕ) (d : Head) (found : b ≡ block_at h head_block) (passed : Ok d ≡ checked_head m most (head_of b)) where
    headed : home_verdict m most h ≡ (checked_opening m (opening_on h) >>= after_opening d)
    headed =
        ap (λ z. z >>= λ d. checked_opening m (opening_on h) >>= after_opening d)
        (sym (passed ∙ ap (λ z. checked_head m most (head_of z)) found))

    -- the opening gave an answer
    module _ (codes : List ℕ) (read : codes ≡ opening_on h) where
      opening_is : (r : Result BookState Refusal) → checked_opening m codes ≡ r → home_verdict m most h ≡ (r >>= after_opening d)
      opening_is r e =
          headed ∙ ap (λ z. z >>= after_opening d) (sym (ap (checked_opening m) read) ∙ e)

      pub opening_refused : (e : Refusal) → checked_opening m codes ≡ Err e → Err e ≡ home_verdict m most h
      opening_refused e q = sym (opening_is (Err e) q)

      -- the records did
      module _ (s : BookState) (opened : checked_opening m codes ≡ Ok s) where
        pub record_refused : (e : Refusal) → replayed m most h d.count 1 s ≡ Err e → Err e ≡ home_verdict m most h
        record_refused e q = sym (opening_is (Ok s) opened ∙ ap (λ z. z >>= after_records d) q)

        pub all_compared : (t : BookState) (r : Result ℕ Refusal) → replayed m most h d.count 1 s ≡ Ok t → r ≡ compared d.count (differing_block h t) → r ≡ home_verdict m most h
        all_compared t r q e = e ∙ sym (opening_is (Ok s) opened ∙ ap (λ z. z >>= after_records d) q)
