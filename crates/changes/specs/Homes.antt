-- A change, as a list of homes: home blocks, each with what it is to hold, in strictly rising
-- number.
use Rattle.std.specs.Prelude.{ℕ, ◌-◌, ◌<◌, ◌≤◌, Bool, ◌&&◌, List, map, length, nat_le, nat_lt, slice_index}
use Rattle.changes.specs.declared.home.Home.{Home}

-- block b, which is to hold x
abbrev pub home_at : ℕ → List ℕ → Home
home_at b x = record { number = b; content = x }

abbrev pub numbers : List Home → List ℕ
numbers homes = map (λ h. h.number) homes

abbrev pub contents : List Home → List (List ℕ)
contents homes = map (λ h. h.content) homes

-- the number of the last block, which is the highest
abbrev pub last : List Home → ℕ
last homes = slice_index (numbers homes) (length homes - 1)

-- a home block has a number from 7 that two bytes hold
abbrev pub home_number : ℕ → Bool
home_number b = nat_le 7 b && nat_le b 65535

-- one more block fits behind the others: there is room, and its number is above theirs
abbrev pub fits_behind : List Home → ℕ → Bool
fits_behind homes b = nat_lt (length homes) 6 && (nat_lt (last homes) b && nat_le b 65535)

-- what is known of every change: one to six blocks, whose numbers rise strictly, from 7 on, each of
-- two bytes
pub record IsChange (homes : List Home) : Type 0 where
  pub some : 1 ≤ length homes
  pub few : length homes ≤ 6
  pub rise :
      (i j : ℕ) → i < j → j < length homes →
      slice_index (numbers homes) i < slice_index (numbers homes) j
  pub low : (i : ℕ) → i < length homes → 7 ≤ slice_index (numbers homes) i
  pub two_bytes : (i : ℕ) → slice_index (numbers homes) i < 65536
