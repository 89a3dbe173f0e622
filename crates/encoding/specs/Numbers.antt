-- Numbers among bytes, the low byte first.
use Rattle.std.specs.Prelude.{◌≡◌, ℕ, ◌<◌, List, length, take, drop, slice_index}
use Rattle.std.specs.Int.{Width, byte_len, from_le_bytes}

-- the number that stands in c from place k on, the low byte first
abbrev pub number_at : Width → List ℕ → ℕ → ℕ
number_at w c k = from_le_bytes w (take (byte_len w) (drop k c))

-- 64 bytes, each below 256
pub record Block (c : List ℕ) : Type 0 where
  pub sixty_four : length c ≡ 64
  pub bytes : (i : ℕ) → slice_index c i < 256
