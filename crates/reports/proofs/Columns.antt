-- What a format's width does to a number and to a text: it stands flush right or flush left.
use Rattle.std.proofs.Common.{◌≡◌, ℕ, zero, suc, ◌+◌, ◌-◌, ◌^◌, ◌<◌, ◌≤◌, ◌||◌, ◌&&◌, Bool, true, cond, List, [], ◌∷◌, length, Option, Some, None, codes, refl, ap, ◌∙◌, arith, append-nil}
use Rattle.std.specs.Prelude.{decimal, unwrap_or, nat_le, slice_get}
use Rattle.std.specs.Char.{is_ascii}
use Rattle.std.specs.List.{list_all}
use Rattle.std.specs.Option.{option_map_or}
use Rattle.std.specs.Fmt.{format_spec, styled_decimal, styled_text, padded, char_count, is_char_start}
use Rattle.std.proofs.Padding.{styled_decimal_is, padded_integral_right, take_chars_all, char_count-nil, char_count-cons, repeat_ascii}
use Rattle.std.proofs.lemmas.Bool.{and_parts, ne_eqb}
use Rattle.std.proofs.lemmas.Bool.Decides.{nat_tests}
use Rattle.books.specs.Words.{word_of}
use Rattle.records.specs.declared.record.Record.{Record}
use Rattle.records.specs.declared.record.Record.TheVariants as entry
use Rattle.registry.specs.declared.book_name.BookName.{BookName}
use Rattle.registry.specs.declared.book_name.BookName.TheVariants as book-name
use Rattle.registry.specs.BookName.{meaning_of}
use Rattle.reports.specs.Texts.{kind_name, word_in}
use Rattle.reports.specs.Table.{right, left, cell}

-- a number flush right
pub number_right : (w n : ℕ) → styled_decimal (format_spec 32 3 0 w (2 ^ 64 - 1)) n ≡ right w (decimal n)
number_right w n =
    styled_decimal_is (format_spec 32 3 0 w (2 ^ 64 - 1)) n
    ∙ padded_integral_right (format_spec 32 3 0 w (2 ^ 64 - 1)) (decimal n) refl refl (λ e. omega arith) (λ e. omega arith) (omega arith)

-- each byte of an ASCII text is a character
ascii_count : (text : List ℕ) → list_all is_ascii text ≡ true → char_count text ≡ length text
ascii_count [] plain = char_count-nil
ascii_count (b ∷ text) plain =
    let parts = and_parts (is_ascii b) (list_all is_ascii text) plain in
    let starts : is_char_start b ≡ true = ap (λ t. t || nat_le 0xC0 b) parts.0 in
    char_count-cons b text ∙ (λ i. cond (starts i) 1 0 + ascii_count text parts.1 i) ∙ omega arith

module _ (w : ℕ) (text : List ℕ) (plain : list_all is_ascii text ≡ true) (short : length text ≤ 2 ^ 64 - 1) where
  -- a text flush right
  padded_right : padded (format_spec 32 3 0 w (2 ^ 64 - 1)) text ≡ right w text
  unfolding padded
  padded_right =
      let none : w - length text - (w - length text) ≡ 0 = omega arith in
      rw (take_chars_all (2 ^ 64 - 1) text short, ascii_count text plain, none, repeat_ascii (w - length text) 32 (omega arith), append-nil text) refl

  pub text_right : 0 < w → styled_text (format_spec 32 3 0 w (2 ^ 64 - 1)) text ≡ right w text
  text_right some = rw (ne_eqb w 0 (λ e. omega arith)) padded_right

  -- and flush left
  padded_left : padded (format_spec 32 1 0 w (2 ^ 64 - 1)) text ≡ left w text
  unfolding padded
  padded_left =
      let all : w - length text - 0 ≡ w - length text = omega arith in
      rw (take_chars_all (2 ^ 64 - 1) text short, ascii_count text plain, all, repeat_ascii (w - length text) 32 (omega arith)) refl

  pub text_left : 0 < w → styled_text (format_spec 32 1 0 w (2 ^ 64 - 1)) text ≡ left w text
  text_left some = rw (ne_eqb w 0 (λ e. omega arith)) padded_left

-- a number, or a dash, flush right
pub cell_right :
    (w : ℕ) (c : Option ℕ) → 0 < w
    → option_map_or (styled_decimal (format_spec 32 3 0 w (2 ^ 64 - 1))) c (styled_text (format_spec 32 3 0 w (2 ^ 64 - 1)) (codes "-"))
    ≡ right w (cell c)
cell_right w (Some n) some = number_right w n
cell_right w None some = text_right w (codes "-") refl (omega arith) some

-- the name of a kind, flush left
pub kind_left : (x : Record) → styled_text (format_spec 32 1 0 13 (2 ^ 64 - 1)) (kind_name x) ≡ left 13 (kind_name x)
kind_left (entry.Posting p) = text_left 13 (codes "posting") refl (omega arith) (omega arith)
kind_left (entry.Certification c) = text_left 13 (codes "certification") refl (omega arith) (omega arith)
kind_left (entry.Strike row) = text_left 13 (codes "strike") refl (omega arith) (omega arith)

-- a word of up to 8 ASCII characters, as every word of a book is
abbrev plain_word : List ℕ → Bool
plain_word w = nat_le (length w) 8 && list_all is_ascii w

one_of_plain : (ws : List (List ℕ)) (k : ℕ) → list_all plain_word ws ≡ true → plain_word (unwrap_or (slice_get ws k) []) ≡ true
one_of_plain [] k all = refl
one_of_plain (w ∷ ws) zero all = (and_parts (plain_word w) (list_all plain_word ws) all).0
one_of_plain (w ∷ ws) (suc k) all = one_of_plain ws k (and_parts (plain_word w) (list_all plain_word ws) all).1

all_plain : (b : BookName) → list_all plain_word (meaning_of b).words ≡ true
all_plain book-name.Ledger = refl
all_plain book-name.Stock = refl

plain_at : (b : BookName) (p : ℕ) → plain_word (unwrap_or (word_of (meaning_of b).words p) []) ≡ true
plain_at b zero = refl
plain_at b (suc k) = one_of_plain (meaning_of b).words k (all_plain b)

plain_of : (b : BookName) (x : Record) → plain_word (unwrap_or (word_in b x) []) ≡ true
plain_of b (entry.Posting p) = plain_at b p.procedure
plain_of b (entry.Certification c) = plain_at b c.procedure
plain_of b (entry.Strike row) = refl

-- the word of a record's procedure, or none, flush left
pub word_left : (b : BookName) (x : Record) → styled_text (format_spec 32 1 0 8 (2 ^ 64 - 1)) (unwrap_or (word_in b x) []) ≡ left 8 (unwrap_or (word_in b x) [])
word_left b x =
    let w = unwrap_or (word_in b x) [] in
    let parts = and_parts (nat_le (length w) 8) (list_all is_ascii w) (plain_of b x) in
    text_left 8 w parts.1 (grind (arith, nat_tests, parts.0)) (omega arith)
