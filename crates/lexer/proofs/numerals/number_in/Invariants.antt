-- What is left decides it: all before are digits, with the value so far, which fits.
use Rattle.std.proofs.Common.{◌≡◌, ◌^◌, ◌<◌, drop}
use Rattle.std.specs.Char.{is_digit}
use Rattle.std.specs.List.{list_all}
use Rattle.lexer.specs.Numerals.{value}
use Rattle.lexer.proofs.DigitValues.{value_after}
use Rattle.lexer.proofs.numerals.number_in.Given as goal

abbrev pub invariant-loop-byte : goal.invariant-loop-byte
invariant-loop-byte l =
    (list_all (λ d. is_digit d l.base) (drop l.byte-index l.digits) ≡ list_all (λ d. is_digit d l.base) l.digits)
    × (value_after l.base l.value (drop l.byte-index l.digits) ≡ value l.base l.digits)
    × (l.value < 2 ^ 64)
