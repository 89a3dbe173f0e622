-- What proofs elsewhere cite: numbers of two, four and eight bytes, written and read, by the laws
-- of std.
use Rattle.std.proofs.Common.{◌≡◌, ℕ, ◌+◌, ◌^◌, ◌<◌, ◌≤◌, List, length, take, drop, get_or, refl, ap, ◌∙◌, inl, inr, arith}
use Rattle.std.specs.Int.{Width, w16, w32, w64, byte_len, to_le_bytes, from_le_bytes}
use Rattle.std.proofs.lemmas.List.{take_at, take_all, drop_at, length-take, length-drop, length-take-le, get_or-take, get_or-drop, get_or_past}
use Rattle.std.proofs.lemmas.Bool.{cases_lt}
use Rattle.std.proofs.lemmas.Nat.{le_bytes_2, le_bytes_4, le_bytes_8, from_le_bytes-to_le_bytes_2, from_le_bytes-to_le_bytes_4, from_le_bytes-to_le_bytes_8}
use Rattle.encoding.specs.Numbers.{number_at}
use Rattle.encoding.specs.RoundTrips.{RoundTrips, NumbersReadBack}

-- part of a list of bytes is bytes
part : (n k : ℕ) (c : List ℕ) → ((i : ℕ) → get_or c i 0 < 256) → (i : ℕ) → get_or (take n (drop k c)) i 0 < 256
part n k c b i =
    elim (cases_lt i n) [
      | inl within ↦ omega (arith, get_or-take n (drop k c) i 0 within, get_or-drop k c i 0, b (k + i))
      | inr past ↦ omega (arith, get_or_past (take n (drop k c)) i 0 (omega (arith, length-take n (drop k c))))
    ]

module _ (w : Width)
    (long : (n : ℕ) → length (to_le_bytes w n) ≡ byte_len w)
    (back : (n : ℕ) → n < 256 ^ byte_len w → from_le_bytes w (to_le_bytes w n) ≡ n)
    (same : (bs : List ℕ) (n : ℕ) → length bs ≡ byte_len w → ((i : ℕ) → get_or bs i 0 < 256) → n ≡ from_le_bytes w bs → to_le_bytes w n ≡ bs) where
  trips : RoundTrips w
  trips =
      record {
        alone = λ n h. ap (from_le_bytes w) (take_all (byte_len w) (to_le_bytes w n) (omega (arith, long n))) ∙ back n h;
        among = λ before behind n h.
            ap (λ z. from_le_bytes w (take (byte_len w) z)) (drop_at before _ _ refl)
            ∙ ap (from_le_bytes w) (take_at (to_le_bytes w n) behind _ (long n))
            ∙ back n h;
        written = λ c k b h.
            same _ _ (length-take-le (byte_len w) (drop k c) (omega (arith, length-drop k c))) (part (byte_len w) k c b) refl;
      }

two : RoundTrips w16
two = trips w16 (λ n. refl) from_le_bytes-to_le_bytes_2 le_bytes_2

four : RoundTrips w32
four = trips w32 (λ n. refl) from_le_bytes-to_le_bytes_4 le_bytes_4

eight : RoundTrips w64
eight = trips w64 (λ n. refl) from_le_bytes-to_le_bytes_8 le_bytes_8

pub read_back : NumbersReadBack
read_back = record { two = two; four = four; eight = eight }

-- a number is read back from its bytes
pub two_read : (n : ℕ) → n < 2 ^ 16 → number_at w16 (to_le_bytes w16 n) 0 ≡ n
two_read = two.alone

pub four_read : (n : ℕ) → n < 2 ^ 32 → number_at w32 (to_le_bytes w32 n) 0 ≡ n
four_read = four.alone

pub eight_read : (n : ℕ) → n < 2 ^ 64 → number_at w64 (to_le_bytes w64 n) 0 ≡ n
eight_read = eight.alone

-- bytes that are there are those of the number that they hold
module _ (c : List ℕ) (k : ℕ) (b : (i : ℕ) → get_or c i 0 < 256) where
  pub two_written : k + 2 ≤ length c → to_le_bytes w16 (number_at w16 c k) ≡ take 2 (drop k c)
  two_written = two.written c k b

  pub four_written : k + 4 ≤ length c → to_le_bytes w32 (number_at w32 c k) ≡ take 4 (drop k c)
  four_written = four.written c k b

  pub eight_written : k + 8 ≤ length c → to_le_bytes w64 (number_at w64 c k) ≡ take 8 (drop k c)
  eight_written = eight.written c k b
