-- Where a list falls into pieces and words.
use Rattle.std.proofs.Common.{◌≡◌, ℕ, ◌+◌, ◌<◌, ◌≤◌, Bool, true, not, List, [], ◌∷◌, length, take, drop, Some, None, sym, refl, ap, ◌∙◌, one-add, arith}
use Rattle.std.specs.List.{slice_split, before_first, after_first, position, position_or_len}
use Rattle.std.proofs.lemmas.List.{length-take-le}
use Rattle.std.proofs.lemmas.List.Splits.{slice_split_first}
use Rattle.std.proofs.lemmas.List.Sums.{prefix_len-le-length}
use Rattle.std.proofs.lemmas.Bool.{cond_both, not-true, not-false}
use Rattle.std.proofs.lemmas.Bool.Decides.{nat_tests}
use Rattle.std.proofs.Math.Bool.{not-not}
use Rattle.lexer.specs.Pieces.{newline, blank, nonempty, lines, words}

-- the first piece ends before the first cut, and the rest begins after it
pieces_cut :
    (cut : ℕ → Bool) (xs : List ℕ)
    → position_or_len cut xs < length xs
    → slice_split cut xs ≡ before_first cut xs ∷ slice_split cut (after_first cut xs)
pieces_cut cut xs h = slice_split_first cut xs 0 h

-- where nothing is cut, the whole is the only piece
pieces_whole : (cut : ℕ → Bool) (xs : List ℕ) → position_or_len cut xs ≡ length xs → slice_split cut xs ≡ xs ∷ []
pieces_whole cut [] h = refl
pieces_whole cut (b ∷ bs) h =
    cond_both (not (cut b)) (1 + position_or_len cut bs) 0
    (λ n. n ≡ length (b ∷ bs) → slice_split cut (b ∷ bs) ≡ (b ∷ bs) ∷ [])
    (λ e l. let s : position_or_len cut bs ≡ length bs = omega arith in rw (not-true (cut b) e, pieces_whole cut bs s))
    (λ e l. absurd (omega arith))
    h

-- the place that `position` found is before the end, and is the first
found : {X : Type 0} (p : X → Bool) (xs : List X) (i : ℕ) → position p xs ≡ Some i → (i ≡ position_or_len p xs) × (i < length xs)
found p xs i h = grind (arith, nat_tests)

not_found : {X : Type 0} (p : X → Bool) (xs : List X) → position p xs ≡ None → position_or_len p xs ≡ length xs
not_found p xs h = let within = prefix_len-le-length (λ x. not (p x)) xs in grind (arith, nat_tests)

-- a line ends at its line feed
pub line_first :
    (text : List ℕ) (n : ℕ)
    → n ≡ position_or_len newline text → n < length text
    → lines text ≡ take n text ∷ lines (drop (n + 1) text)
line_first text n e h = rw e (pieces_cut newline text (omega (arith, e)))

-- the last line has none
pub line_last :
    (text : List ℕ) (n : ℕ)
    → n ≡ position_or_len newline text → n ≡ length text → lines text ≡ text ∷ []
line_last text n e h = pieces_whole newline text (sym e ∙ h)

-- there are no more bytes before it than there are
pub line_within : (text : List ℕ) (n : ℕ) → n ≡ position_or_len newline text → n ≤ length text
line_within text n e = rw e (prefix_len-le-length (λ b. not (newline b)) text)

-- what stands in words
abbrev pub solid : ℕ → Bool
solid b = not (blank b)

-- a blank in front makes no word
words_blank : (b : ℕ) (bs : List ℕ) → blank b ≡ true → words (b ∷ bs) ≡ words bs
words_blank b bs e = rw e

-- blanks alone hold no word
words_none : (xs : List ℕ) → position_or_len solid xs ≡ length xs → words xs ≡ []
words_none [] h = refl
words_none (b ∷ bs) h =
    cond_both (not (solid b)) (1 + position_or_len solid bs) 0 (λ n. n ≡ length (b ∷ bs) → words (b ∷ bs) ≡ [])
    (λ e k. words_blank b bs (sym (not-not (blank b)) ∙ e) ∙ words_none bs (omega arith))
    (λ e k. absurd (omega arith))
    h

-- blanks in front make no word, and the first byte that is none begins one
words_skip :
    (xs : List ℕ)
    → position_or_len solid xs < length xs
    → (words xs ≡ words (drop (position_or_len solid xs) xs)) × (0 < position_or_len blank (drop (position_or_len solid xs) xs))
words_skip [] h = absurd (omega arith)
words_skip (b ∷ bs) h =
    cond_both (not (solid b)) (1 + position_or_len solid bs) 0
    (λ n. n < length (b ∷ bs) → (words (b ∷ bs) ≡ words (drop n (b ∷ bs))) × (0 < position_or_len blank (drop n (b ∷ bs))))
    (λ e l. let skip = words_skip bs (omega arith) in rw one-add (words_blank b bs (sym (not-not (blank b)) ∙ e) ∙ skip.0, skip.1))
    (λ e l. (refl, rw (not-false (solid b) e) (omega arith)))
    h

-- the bytes before the first blank are the first piece, and the pieces after it hold the words of
-- the rest
first_piece :
    (xs : List ℕ)
    → (ps : List (List ℕ))
    × (slice_split blank xs ≡ take (position_or_len blank xs) xs ∷ ps)
    × (nonempty ps ≡ words (drop (position_or_len blank xs) xs))
first_piece [] = ([], refl, refl)
first_piece (b ∷ bs) =
    let more = first_piece bs in
    cond_both (not (blank b)) (1 + position_or_len blank bs) 0
    (λ n. (ps : List (List ℕ)) × (slice_split blank (b ∷ bs) ≡ take n (b ∷ bs) ∷ ps) × (nonempty ps ≡ words (drop n (b ∷ bs))))
    (λ e. let f = not-true (blank b) e in (more.0, rw (f, more.1, one-add), rw one-add more.2))
    (λ e. let f = not-false (blank b) e in (slice_split blank bs, rw f, sym (words_blank b bs f)))

-- a piece that is not empty is kept
filled_kept : (p : List ℕ) (ps : List (List ℕ)) → 0 < length p → nonempty (p ∷ ps) ≡ p ∷ nonempty ps
filled_kept [] ps h = absurd (omega arith)
filled_kept (b ∷ p) ps h = refl

-- a word ends before its first blank
words_first :
    (xs : List ℕ) → 0 < position_or_len blank xs
    → words xs ≡ take (position_or_len blank xs) xs ∷ words (drop (position_or_len blank xs) xs)
words_first xs h =
    let first = first_piece xs in
    let within = prefix_len-le-length (λ b. not (blank b)) xs in
    let some : 0 < length (take (position_or_len blank xs) xs) = rw length-take-le h in
    ap nonempty first.1 ∙ filled_kept _ _ some ∙ ap (λ ws. take (position_or_len blank xs) xs ∷ ws) first.2

-- the first word begins at the first byte that is no blank
pub word_first :
    (line : List ℕ) (i n : ℕ)
    → position solid line ≡ Some i
    → n ≡ position_or_len blank (drop i line)
    → words line ≡ take n (drop i line) ∷ words (drop n (drop i line))
word_first line i n h e =
    let at = found solid line i h in
    let skip = words_skip line (omega arith) in
    rw (e, at.0) (skip.0 ∙ words_first (drop (position_or_len solid line) line) skip.1)

-- without one there is no word
pub no_word : (line : List ℕ) → position solid line ≡ None → words line ≡ []
no_word line h = words_none line (not_found solid line h)
