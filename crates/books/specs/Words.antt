-- The words that name a book's procedures: the first word names procedure 1, the next 2, and so on.
use Rattle.std.specs.Prelude.{◌≡◌, ℕ, zero, suc, ◌≤◌, Bool, true, false, not, ◌&&◌, ◌||◌, List, [], ◌∷◌, length, Some, None, Option, nat_le, slice_get, if◌then◌else◌}
use Rattle.std.specs.Str.{bytes_eq}
use Rattle.std.specs.List.{list_all}
use Rattle.books.specs.Meaning.{Meaning}

-- the word of a procedure: none for 0, and none past the last
abbrev pub word_of : List (List ℕ) → ℕ → Option (List ℕ)
word_of ws zero = None
word_of ws (suc k) = slice_get ws k

-- whether a word is this one
abbrev pub is_word : Option (List ℕ) → List ℕ → Bool
is_word None w = false
is_word (Some v) w = bytes_eq v w

-- the procedure that a word names, counted on from p
abbrev pub named_from : ℕ → List (List ℕ) → List ℕ → Option ℕ
named_from p [] w = None
named_from p (v ∷ vs) w = if bytes_eq v w then Some p else named_from (suc p) vs w

-- the procedure that a word names
abbrev pub procedure_of_word : List (List ℕ) → List ℕ → Option ℕ
procedure_of_word ws w = named_from 1 ws w

abbrev pub letter : ℕ → Bool
letter b = (nat_le 65 b && nat_le b 90) || (nat_le 97 b && nat_le b 122)

-- a word of 1 to 8 letters
abbrev pub proper_word : List ℕ → Bool
proper_word w = (nat_le 1 (length w) && nat_le (length w) 8) && list_all letter w

-- no word stands twice
abbrev pub apart : List (List ℕ) → Bool
apart [] = true
apart (w ∷ ws) = list_all (λ v. not (bytes_eq w v)) ws && apart ws

-- up to 7 words
abbrev pub FewWords : Meaning → Type 0
FewWords m = length m.words ≤ 7

-- of 1 to 8 letters each, no two the same
abbrev pub ProperWords : Meaning → Type 0
ProperWords m = (list_all proper_word m.words && apart m.words) ≡ true
