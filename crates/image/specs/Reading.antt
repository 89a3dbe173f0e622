-- What is read of the home blocks.
use Rattle.std.specs.Prelude.{◌≡◌, ℕ, Bool, true, ◌&&◌, List, Some, None, Option, nat_le, nat_lt, slice_index, if◌then◌else◌}
use Rattle.std.specs.Str.{bytes_eq}
use Rattle.journals.specs.JournalState.{JournalState, IsOn, size}
use Rattle.records.specs.declared.record.Record.{Record}
use Rattle.image.specs.Home.{items_on, word_on, record_on}
use Rattle.image.specs.Layout.{lawful_size}

-- on, and of lawful size: a block of the image is read
pub record Readable (d : JournalState) : Type 0 where
  pub on : IsOn d
  pub fits : lawful_size (size d) ≡ true

-- the code of an item, if there is such an item
abbrev pub code_on : List (List ℕ) → ℕ → Option ℕ
code_on h i = if nat_lt i 64 then Some (slice_index (items_on h) i) else None

-- the user is one of 0 to 15, and this is that user's word
abbrev pub is_word_on : List (List ℕ) → ℕ → List ℕ → Bool
is_word_on h user word = nat_le user 15 && bytes_eq word (word_on h user)

-- record k, where there is room for so many
abbrev pub record_within : ℕ → List (List ℕ) → ℕ → Option Record
record_within most h k = if nat_le k most then record_on h k else None
