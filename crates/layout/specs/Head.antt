-- The head block: which house and book the drive belongs to, and how many records stand on it.
use Rattle.std.specs.Prelude.{◌≡◌, ℕ, ◌^◌, ◌<◌, not, List, ◌∷◌, ◌++◌, replicate, Some, None, Option, ◌≢◌, ◌==◌, if◌then◌else◌, slice_index}
use Rattle.std.specs.Int.{w32, to_le_bytes}
use Rattle.std.specs.Str.{bytes_eq}
use Rattle.encoding.specs.Numbers.{number_at}
use Rattle.layout.specs.declared.head.Head.{Head}

-- bytes 0 to 3 the house number, 4 the book's kind, 8 to 11 the record count, all else zero
abbrev pub head_form : Head → List ℕ
head_form h =
    to_le_bytes w32 h.house ++ (h.kind ∷ (0 ∷ (0 ∷ (0 ∷ (to_le_bytes w32 h.count ++ replicate 52 0)))))

-- what a block's fields give
abbrev pub fields_of_head : List ℕ → Head
fields_of_head c = record { house = number_at w32 c 0; kind = slice_index c 4; count = number_at w32 c 8 }

-- what a head block says; none where the block is no head's, or its house number is 0
abbrev pub head_of : List ℕ → Option Head
head_of c =
    if (fields_of_head c).house == 0 then None
    else if not (bytes_eq (head_form (fields_of_head c)) c) then None
    else Some (fields_of_head c)

-- a block is the form of a head: its house number is not 0, and house number and count are of 32
-- bits
pub record HeadForm (h : Head) (c : List ℕ) : Type 0 where
  pub some_house : h.house ≢ 0
  pub house_fits : h.house < 2 ^ 32
  pub count_fits : h.count < 2 ^ 32
  pub form : head_form h ≡ c

-- a block is no head's form
abbrev pub IsNoHead : List ℕ → Type 0
IsNoHead c = (h : Head) → HeadForm h c → ⊥
