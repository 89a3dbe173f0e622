-- A number is read back from its bytes, and bytes are those of the number that they hold.
use Rattle.std.specs.Prelude.{◌≡◌, ℕ, ◌+◌, ◌^◌, ◌<◌, ◌≤◌, List, ◌++◌, length, take, drop, slice_index}
use Rattle.std.specs.Int.{Width, w16, w32, w64, byte_len, to_le_bytes}
use Rattle.encoding.specs.Numbers.{number_at}

-- so it is at a width: alone, among other bytes, and of bytes that are there
pub record RoundTrips (w : Width) : Type 0 where
  pub alone : (n : ℕ) → n < 256 ^ byte_len w → number_at w (to_le_bytes w n) 0 ≡ n
  pub among :
      (before behind : List ℕ) (n : ℕ) → n < 256 ^ byte_len w
      → number_at w (before ++ (to_le_bytes w n ++ behind)) (length before) ≡ n
  pub written :
      (c : List ℕ) (k : ℕ) → ((i : ℕ) → slice_index c i < 256) → k + byte_len w ≤ length c
      → to_le_bytes w (number_at w c k) ≡ take (byte_len w) (drop k c)

-- numbers of two, four and eight bytes
pub record NumbersReadBack : Type 0 where
  pub two : RoundTrips w16
  pub four : RoundTrips w32
  pub eight : RoundTrips w64
