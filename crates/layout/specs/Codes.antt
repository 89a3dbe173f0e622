-- A block of item codes: eight codes of eight bytes.
use Rattle.std.specs.Prelude.{ℕ, ◌*◌, List, map}
use Rattle.std.specs.Int.{w64, to_le_bytes}
use Rattle.std.specs.List.{range_with_len, flat_map}
use Rattle.encoding.specs.Numbers.{number_at}

abbrev pub codes_form : List ℕ → List ℕ
codes_form cs = flat_map (to_le_bytes w64) cs

-- the eight codes that a block holds
abbrev pub codes_of : List ℕ → List ℕ
codes_of c = map (λ i. number_at w64 c (8 * i)) (range_with_len 0 8)
