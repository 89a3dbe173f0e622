-- The roll: a word of eight bytes for each of 16 users, user 0 first, in two blocks.
use Rattle.std.specs.Prelude.{ℕ, ◌*◌, List, take, drop}

-- the eight bytes of a word, by its place
abbrev pub word_in : List ℕ → ℕ → List ℕ
word_in c i = take 8 (drop (8 * i) c)

-- the two blocks of a roll of 128 bytes
abbrev pub first_words : List ℕ → List ℕ
first_words roll = take 64 roll

abbrev pub last_words : List ℕ → List ℕ
last_words roll = drop 64 roll
