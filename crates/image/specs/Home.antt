-- What stands on a drive, by block: h is the drive's home blocks, which begin with the head.
use Rattle.std.specs.Prelude.{ℕ, ◌-◌, ◌*◌, ◌%◌, List, [], map, take, drop, Option, slice_index_or}
use Rattle.std.specs.List.{range_with_len, flat_map}
use Rattle.rights.specs.declared.row.Row.{Row}
use Rattle.records.specs.declared.record.Record.{Record}
use Rattle.records.specs.Form.{decoded}
use Rattle.layout.specs.declared.head.Head.{Head}
use Rattle.layout.specs.Head.{fields_of_head}
use Rattle.layout.specs.Codes.{codes_form, codes_of}
use Rattle.layout.specs.Rows.{rows_form, rows_of}
use Rattle.layout.specs.Roll.{word_in}
use Rattle.applying.specs.BookState.{BookState}
use Rattle.image.specs.declared.part.Part.{Part}
use Rattle.image.specs.declared.part.Part.TheVariants.{Items, Opening, Rows}
use Rattle.image.specs.Layout.{head_block, first_block, roll_block, record_block}

-- block k
abbrev pub block_at : List (List ℕ) → ℕ → List ℕ
block_at h k = slice_index_or h (k - head_block) []

-- n blocks from k on
abbrev pub blocks_at : List (List ℕ) → ℕ → ℕ → List (List ℕ)
blocks_at h k n = map (block_at h) (range_with_len k n)

-- the eight blocks of a part
abbrev pub part_on : List (List ℕ) → Part → List (List ℕ)
part_on h part = blocks_at h (first_block part) 8

-- the head, by its block's fields
abbrev pub head_on : List (List ℕ) → Head
head_on h = fields_of_head (block_at h head_block)

abbrev pub house_on : List (List ℕ) → ℕ
house_on h = (head_on h).house

abbrev pub count_on : List (List ℕ) → ℕ
count_on h = (head_on h).count

-- items, opening items and rows
abbrev pub items_on : List (List ℕ) → List ℕ
items_on h = flat_map codes_of (part_on h Items)

abbrev pub opening_on : List (List ℕ) → List ℕ
opening_on h = flat_map codes_of (part_on h Opening)

abbrev pub rows_on : List (List ℕ) → List Row
rows_on h = flat_map rows_of (part_on h Rows)

-- what the books hold by the blocks of items and rows, where so many records stand; and as the head
-- counts them
abbrev pub state_with : List (List ℕ) → ℕ → BookState
state_with h count = record { items = items_on h; rows = rows_on h; count = count }

abbrev pub state_on : List (List ℕ) → BookState
state_on h = state_with h (count_on h)

-- the word of a user on the roll
abbrev pub word_on : List (List ℕ) → ℕ → List ℕ
word_on h u = word_in (block_at h (roll_block u)) (u % 8)

-- record k, from 1 on; none where its block is not a record's exact form with that number
abbrev pub record_on : List (List ℕ) → ℕ → Option Record
record_on h k = decoded k (block_at h (record_block k))

-- the records up to the head's count
abbrev pub records_on : List (List ℕ) → List (Option Record)
records_on h = map (record_on h) (range_with_len 1 (count_on h))

-- the blocks of 64 codes, eight to a block, and of 32 rows, four to a block
abbrev pub blocks_of_codes : List ℕ → List (List ℕ)
blocks_of_codes codes = map (λ j. codes_form (take 8 (drop (8 * j) codes))) (range_with_len 0 8)

abbrev pub blocks_of_rows : List Row → List (List ℕ)
blocks_of_rows rows = map (λ j. rows_form (take 4 (drop (4 * j) rows))) (range_with_len 0 8)
