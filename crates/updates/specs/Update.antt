-- The update that a record makes on the drive, in one change: the head, with one record more; the
-- blocks of its items or of its row; and the block of the record itself.
use Rattle.std.specs.Prelude.{ℕ, ◌+◌, ◌/◌, ◌<◌, min, max, List, [], ◌∷◌, ◌++◌, Ok, Err, Result}
use Rattle.std.specs.Prelude.{◌==◌, slice_index_or, if◌then◌else◌}
use Rattle.refusals.specs.declared.refusal.Refusal.{Refusal}
use Rattle.changes.specs.declared.home.Home.{Home}
use Rattle.changes.specs.Homes.{home_at}
use Rattle.records.specs.declared.record.Record.{Record}
use Rattle.records.specs.declared.record.Record.TheVariants.{Posting, Certification, Strike}
use Rattle.records.specs.Form.{encoded}
use Rattle.layout.specs.declared.head.Head.{Head}
use Rattle.layout.specs.Head.{head_form}
use Rattle.applying.specs.BookState.{BookState}
use Rattle.image.specs.Home.{head_on, blocks_of_codes, blocks_of_rows}
use Rattle.image.specs.Layout.{head_block, item_block, row_block, record_block}

-- a head with one record more
abbrev pub counted : Head → Head
counted d = record d { count = d.count + 1 }

-- the head's block, with one record more
abbrev pub head_home : Head → Home
head_home d = home_at head_block (head_form (counted d))

-- the block of an item, and of a row
abbrev pub item_home : BookState → ℕ → Home
item_home s i = home_at (item_block i) (slice_index_or (blocks_of_codes s.items) (i / 8) [])

abbrev pub row_home : BookState → ℕ → Home
row_home s k = home_at (row_block k) (slice_index_or (blocks_of_rows s.rows) (k / 4) [])

-- the next record's block
abbrev pub record_home : ℕ → Record → Home
record_home count x = home_at (record_block (count + 1)) (encoded (count + 1) x)

-- two items stand in one block, or in two, the lower first
abbrev pub item_homes : BookState → ℕ → ℕ → List Home
item_homes s a b =
    if a / 8 == b / 8 then item_home s (min a b) ∷ []
    else item_home s (min a b) ∷ (item_home s (max a b) ∷ [])

-- the blocks of the items, or of the row, that a record updates
abbrev pub updated_homes : BookState → Record → List Home
updated_homes s (Posting p) = item_homes s p.a p.b
updated_homes s (Certification c) = row_home s c.row ∷ []
updated_homes s (Strike k) = row_home s k ∷ []

-- the update that a record makes, under this head, where s stands after it
abbrev pub update_of : Head → Record → BookState → List Home
update_of d x s = head_home d ∷ (updated_homes s x ++ (record_home d.count x ∷ []))

-- the update to be made on home blocks h, where applying the record gives what stands after it
abbrev pub resulting_update :
    List (List ℕ) → Record → Result BookState Refusal → Result (List Home) Refusal
resulting_update h x (Ok s) = Ok (update_of (head_on h) x s)
resulting_update h x (Err e) = Err e

-- a record of items and a row that there are
abbrev pub Within : Record → Type 0
Within (Posting p) = (p.a < 64) × (p.b < 64)
Within (Certification c) = c.row < 32
Within (Strike k) = k < 32

-- there is an update: the head counts fewer than 1,000 records, and the record names items and a
-- row that there are
pub record HasUpdate (d : Head) (x : Record) : Type 0 where
  pub few : d.count < 1000
  pub within : Within x
