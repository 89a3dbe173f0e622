-- The search for the procedure that a word names: the first whose word it is.
use Rattle.std.proofs.Common.{◌≡◌, ℕ, suc, ◌+◌, cond, List, [], ◌∷◌, length, Some, Option, refl, ap, ◌∙◌, add-one, arith}
use Rattle.std.specs.List.{find, range_with_len}
use Rattle.std.specs.Prelude.{slice_get}
use Rattle.std.specs.Str.{bytes_eq}
use Rattle.books.specs.Words.{word_of, is_word, procedure_of_word, named_from}

-- counted on from k, where g gives the words that are left
find_from : (g : ℕ → Option (List ℕ)) (ws : List (List ℕ)) (k : ℕ) (w : List ℕ) → ((i : ℕ) → g (k + i) ≡ slice_get ws i) → find (λ p. is_word (g p) w) (range_with_len k (length ws)) ≡ named_from k ws w
find_from g [] k w h = refl
find_from g (v ∷ vs) k w h =
    let here : g k ≡ Some v = ap g (omega arith) ∙ h 0 in
    let next : find (λ p. is_word (g p) w) (range_with_len (k + 1) (length vs)) ≡ named_from (k + 1) vs w =
    find_from g vs (k + 1) w (λ i. ap g (omega arith) ∙ h (suc i)) in
    let e : named_from (k + 1) vs w ≡ named_from (suc k) vs w = ap (λ z. named_from z vs w) (add-one k) in
    ap (λ o. cond (is_word o w) (Some k) (find (λ p. is_word (g p) w) (range_with_len (k + 1) (length vs)))) here
    ∙ ap (λ z. cond (bytes_eq v w) (Some k) z) (next ∙ e)

pub find_named : (ws : List (List ℕ)) (w : List ℕ) → find (λ p. is_word (word_of ws p) w) (range_with_len 1 (length ws)) ≡ procedure_of_word ws w
find_named ws w = find_from (word_of ws) ws 1 w (λ i. ap (word_of ws) {y = suc i} (omega arith))
