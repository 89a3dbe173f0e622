-- What `{:02}` writes of a number below 100.
use Rattle.std.proofs.Common.{◌≡◌, ℕ, ◌-◌, ◌/◌, ◌%◌, ◌^◌, ◌<◌, ◌++◌, length, replicate, refl, ◌∙◌, arith, inl, inr}
use Rattle.std.specs.Prelude.{decimal}
use Rattle.std.specs.Fmt.{format_spec, styled_decimal}
use Rattle.std.proofs.Padding.{padded_integral_zeros}
use Rattle.std.proofs.lemmas.Bool.{cases_lt}
use Rattle.std.proofs.lemmas.Fmt.{decimal_digit, decimal_step}
use Rattle.ledger.specs.Texts.{two_digits}

-- zeros stand before it up to two digits
filled : (n : ℕ) → n < 100 → replicate (2 - length (decimal n)) 48 ++ decimal n ≡ two_digits n
filled n small = elim (cases_lt n 10) [
  | inl one ↦ (
      let tens : n / 10 ≡ 0 = omega arith in
      let ones : n % 10 ≡ n = omega arith in
      rw (tens, ones, decimal_digit n one, decimal_digit 0 (omega arith)) refl)
  | inr two ↦ rw (decimal_step n two (omega arith), decimal_digit (n / 10) (omega arith), decimal_digit (n % 10) (omega arith)) refl
]

pub two_padded : (n : ℕ) → n < 100 → styled_decimal (format_spec 32 0 4 2 (2 ^ 64 - 1)) n ≡ two_digits n
two_padded n small = padded_integral_zeros (format_spec 32 0 4 2 (2 ^ 64 - 1)) (decimal n) refl refl ∙ filled n small
