-- Typed numbers: decimal digits, or hexadecimal ones after `0x`, whose value fits 64 bits.
use Rattle.std.specs.Prelude.{ℕ, ◌+◌, ◌*◌, ◌^◌, ◌&&◌, List, length, take, drop, Some, None, codes, fold, Option, nat_le, nat_lt, if◌then◌else◌}
use Rattle.std.specs.List.{list_all}
use Rattle.std.specs.Char.{digit_value, is_digit}
use Rattle.std.specs.Str.{bytes_eq}

-- the value of digits in a base, the highest first
abbrev pub value : ℕ → List ℕ → ℕ
value base ds = fold (λ v d. v * base + digit_value d) 0 ds

-- the number that digits of a base write: at least one digit and nothing else, with a value below 2
-- ^ 64
abbrev pub number_in : ℕ → List ℕ → Option ℕ
number_in base ds =
    if nat_le 1 (length ds)
    && (list_all (λ d. is_digit d base) ds && nat_lt (value base ds) (2 ^ 64))
    then Some (value base ds)
    else None

-- the number that a word types: in hexadecimal digits, of either case, after `0x`, else in decimal
-- ones
abbrev pub number_typed : List ℕ → Option ℕ
number_typed w =
    if bytes_eq (take 2 w) (codes "0x") then number_in 16 (drop 2 w) else number_in 10 w
