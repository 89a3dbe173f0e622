-- The commit block: which home blocks a change is to fill from the slots.
use Rattle.std.specs.Prelude.{◌≡◌, ℕ, ◌+◌, ◌-◌, ◌*◌, ◌<◌, ◌≤◌, Bool, true, ◌&&◌, ◌⊎◌, List, [], ◌∷◌, ◌++◌, map, length, drop, replicate, ◌==◌, nat_eq, nat_le, nat_lt, slice_index}
use Rattle.std.specs.Int.{w16, to_le_bytes}
use Rattle.std.specs.List.{range_with_len, flat_map, list_all}
use Rattle.encoding.specs.Numbers.{number_at}

-- 64 bytes that name these blocks, six at most: how many, a zero, their numbers of two bytes each,
-- and zeros
abbrev pub commit_block_of : List ℕ → List ℕ
commit_block_of ns =
    length ns ∷ (0 ∷ (flat_map (to_le_bytes w16) ns ++ replicate (62 - 2 * length ns) 0))

-- a block of 64 zeros
abbrev pub zeros : List ℕ
zeros = replicate 64 0

-- how many blocks a commit block names, and which
abbrev pub count_of : List ℕ → ℕ
count_of c = slice_index c 0

abbrev pub number_of : List ℕ → ℕ → ℕ
number_of c i = number_at w16 c (2 + 2 * i)

abbrev pub named_in : List ℕ → List ℕ
named_in c = map (number_of c) (range_with_len 0 (count_of c))

-- numbers that rise strictly, from 7 on and below the drive's size
pub record Rises (size : ℕ) (ns : List ℕ) : Type 0 where
  pub rise : (i j : ℕ) → i < j → j < length ns → slice_index ns i < slice_index ns j
  pub low : (i : ℕ) → i < length ns → 7 ≤ slice_index ns i
  pub high : (i : ℕ) → i < length ns → slice_index ns i < size

-- lawful on a drive of that size: at most six blocks, whose numbers rise, and every other byte
-- zero. All zero is the lawful commit block that names none
pub record LawfulCommit (size : ℕ) (c : List ℕ) : Type 0 where
  pub few : count_of c ≤ 6
  pub rises : Rises size (named_in c)
  pub rest : (j : ℕ) → (j ≡ 1) ⊎ (2 + 2 * count_of c ≤ j) → slice_index c j ≡ 0

-- a test that numbers rise strictly, from above `low` on and below the size
abbrev pub rising : ℕ → ℕ → List ℕ → Bool
rising size low [] = true
rising size low (n ∷ ns) = (nat_lt low n && nat_lt n size) && rising size n ns

-- a test that a commit block is lawful. Before the first number stands 6, the last block of the
-- journal's own
abbrev pub lawful_commit : ℕ → List ℕ → Bool
lawful_commit size c =
    (nat_le (count_of c) 6 && slice_index c 1 == 0)
    && (rising size 6 (named_in c) && list_all (λ b. nat_eq b 0) (drop (2 + 2 * count_of c) c))
