-- How a text falls into lines, and a line into words.
use Rattle.std.specs.Prelude.{ℕ, Bool, not, ◌&&◌, ◌||◌, List, [], ◌∷◌, take, ◌==◌, nat_le, Some, None, Option}
use Rattle.std.specs.Borrow.{Bor}
use Rattle.std.specs.List.{prefix_len, slice_split}

-- a line feed ends a line
abbrev pub newline : ℕ → Bool
newline b = b == 10

-- space, tab and carriage return stand between words
abbrev pub blank : ℕ → Bool
blank b = b == 32 || (b == 9 || b == 13)

-- text: the printable characters of ASCII, and blanks
abbrev pub printable : ℕ → Bool
printable b = (nat_le 32 b && nat_le b 126) || blank b

-- the pieces that are not empty
abbrev pub nonempty : List (List ℕ) → List (List ℕ)
nonempty [] = []
nonempty ([] ∷ ps) = nonempty ps
nonempty ((b ∷ p) ∷ ps) = (b ∷ p) ∷ nonempty ps

-- the lines of a text: n line feeds give n + 1 lines
abbrev pub lines : List ℕ → List (List ℕ)
lines text = slice_split newline text

-- the words of a line: what stands between blanks
abbrev pub words : List ℕ → List (List ℕ)
words line = nonempty (slice_split blank line)

-- a line without its comment, which begins at the first '#'
abbrev pub uncommented : List ℕ → List ℕ
uncommented line = take (prefix_len (λ b. not (b == 35)) line) line

-- the lines of the text that is left, and none once the last was read
abbrev pub lines_of : Option (Bor (List ℕ)) → List (List ℕ)
lines_of None = []
lines_of (Some text) = lines text.now
