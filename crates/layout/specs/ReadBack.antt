-- What is written in a block is read back, and a block is the form of what is read from it.
use Rattle.std.specs.Prelude.{◌≡◌, ℕ, ◌+◌, ◌-◌, ◌*◌, ◌^◌, ◌<◌, ◌≤◌, List, length, Some, slice_index, slice_index_or}
use Rattle.encoding.specs.Numbers.{Block}
use Rattle.rights.specs.Covers.{free}
use Rattle.rights.specs.declared.row.Row.{Row}
use Rattle.layout.specs.declared.head.Head.{Head}
use Rattle.layout.specs.Codes.{codes_form, codes_of}
use Rattle.layout.specs.Rows.{rows_form, rows_of}
use Rattle.layout.specs.Head.{head_of, HeadForm}
use Rattle.layout.specs.Roll.{word_in, first_words, last_words}

-- codes of 64 bits
abbrev pub CodesFit : List ℕ → Type 0
CodesFit cs = (i : ℕ) → slice_index cs i < 2 ^ 64

-- rows whose masks are of 64 bits
abbrev pub RowsFit : List Row → Type 0
RowsFit ws = (i : ℕ) → (slice_index_or ws i free).mask < 2 ^ 64

-- the bytes of a block of rows that no field has are zero: 3 to 7 of each row
abbrev pub SpareZero : List ℕ → Type 0
SpareZero c = (i j : ℕ) → i < 4 → 3 ≤ j → j < 8 → slice_index c (16 * i + j) ≡ 0

pub record BlocksReadBack : Type 0 where
  pub codes_read : (cs : List ℕ) → length cs ≡ 8 → CodesFit cs → codes_of (codes_form cs) ≡ cs
  pub codes_written : (c : List ℕ) → Block c → codes_form (codes_of c) ≡ c
  pub rows_read : (ws : List Row) → length ws ≡ 4 → RowsFit ws → rows_of (rows_form ws) ≡ ws
  pub rows_written : (c : List ℕ) → Block c → SpareZero c → rows_form (rows_of c) ≡ c
  pub head_read : (h : Head) (c : List ℕ) → HeadForm h c → head_of c ≡ Some h
  pub head_exact : (h : Head) (c : List ℕ) → head_of c ≡ Some h → HeadForm h c
  pub first_read : (roll : List ℕ) (u : ℕ) → u < 8 → word_in (first_words roll) u ≡ word_in roll u
  pub last_read : (roll : List ℕ) (u : ℕ) → 8 ≤ u → word_in (last_words roll) (u - 8) ≡ word_in roll u
