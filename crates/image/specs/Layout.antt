-- Which block of a drive is what, and how large a drive may be.
use Rattle.std.specs.Prelude.{ℕ, ◌+◌, ◌-◌, ◌/◌, Bool, ◌&&◌, nat_le}
use Rattle.image.specs.declared.part.Part.{Part}
use Rattle.image.specs.declared.part.Part.TheVariants.{Items, Opening, Rows}

-- block 7, the first home block, is the head
abbrev pub head_block : ℕ
head_block = 7

-- blocks 8 to 15 are the items, 16 to 23 the opening items, 24 to 31 the rows
abbrev pub first_block : Part → ℕ
first_block Items = 8
first_block Opening = 16
first_block Rows = 24

-- eight items stand in a block, and four rows
abbrev pub item_block : ℕ → ℕ
item_block i = first_block Items + i / 8

abbrev pub row_block : ℕ → ℕ
row_block k = first_block Rows + k / 4

-- blocks 32 and 33 are the roll, eight users in each
abbrev pub roll_block : ℕ → ℕ
roll_block u = 32 + u / 8

-- block 33 + k is record k, from 1 on
abbrev pub record_block : ℕ → ℕ
record_block k = 33 + k

-- a drive has from 35 to 1,024 blocks
abbrev pub lawful_size : ℕ → Bool
lawful_size size = nat_le 35 size && nat_le size 1024

-- so many records find room on a drive of that size
abbrev pub room : ℕ → ℕ
room size = size - 34
