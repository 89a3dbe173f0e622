-- How a balance is printed, for people: in pounds and pence.
use Rattle.std.specs.Prelude.{ℕ, suc, ◌/◌, ◌%◌, List, ◌++◌, ℤ, pos, negsuc, codes, decimal}

-- a number below 100 in two digits: "05"
abbrev pub two_digits : ℕ → List ℕ
two_digits n = decimal (n / 10) ++ decimal (n % 10)

-- pence in pounds and pence: "45.00"
abbrev pub pence_text : ℕ → List ℕ
pence_text n = decimal (n / 100) ++ (codes "." ++ two_digits (n % 100))

-- a balance, with a minus sign where it is below zero: "-45.00"
abbrev pub balance_text : ℤ → List ℕ
balance_text (pos n) = pence_text n
balance_text (negsuc n) = codes "-" ++ pence_text (suc n)
