-- When an image is lawful.
use Rattle.std.specs.Prelude.{◌≡◌, ℕ, suc, ◌≤◌, true, List, [], ◌∷◌, length, Ok}
use Rattle.books.specs.Meaning.{Meaning}
use Rattle.changes.specs.CommitBlock.{LawfulCommit}
use Rattle.journals.specs.Redo.{commit_block, finished, home_blocks}
use Rattle.records.specs.declared.record.Record.{Record}
use Rattle.records.specs.Form.{Exact}
use Rattle.layout.specs.declared.head.Head.{Head}
use Rattle.layout.specs.Head.{HeadForm}
use Rattle.applying.specs.BookState.{BookState, opened}
use Rattle.applying.specs.Applied.{applied_all}
use Rattle.image.specs.declared.part.Part.TheVariants.{Items, Rows}
use Rattle.image.specs.Home.{block_at, part_on, opening_on, blocks_of_codes, blocks_of_rows}
use Rattle.image.specs.Layout.{head_block, record_block, lawful_size, room}

-- these records stand in exact form in their blocks, numbered from k on
abbrev pub StandFrom : List (List ℕ) → ℕ → List Record → Type 0
StandFrom h k [] = Unit {0}
StandFrom h k (x ∷ xs) = Exact k x (block_at h (record_block k)) × StandFrom h (suc k) xs

-- home blocks, on a drive with room for so many records: a head with this book's kind and a count
-- for which there is room, a valid opening, that many records in exact form, which applied in order
-- on the opening and 32 free rows are none of them refused, and end with the items and rows found
pub record LawfulHome (m : Meaning) (most : ℕ) (h : List (List ℕ)) : Type 0 where
  pub head : Head
  pub head_stands : HeadForm head (block_at h head_block)
  pub own_kind : head.kind ≡ m.kind
  pub found_room : head.count ≤ most
  pub valid_opening : m.valid (opening_on h) ≡ true
  pub records : List Record
  pub every_record : length records ≡ head.count
  pub records_stand : StandFrom h 1 records
  pub after : BookState
  pub records_applied : applied_all m most (opened (opening_on h)) records ≡ Ok after
  pub items_found : part_on h Items ≡ blocks_of_codes after.items
  pub rows_found : part_on h Rows ≡ blocks_of_rows after.rows

-- an image, by all the blocks of a drive: a lawful size and commit block and, after finishing,
-- lawful home blocks
pub record LawfulImage (m : Meaning) (p : List (List ℕ)) : Type 0 where
  pub lawful_length : lawful_size (length p) ≡ true
  pub lawful_commit : LawfulCommit (length p) (commit_block p)
  pub lawful_home : LawfulHome m (room (length p)) (home_blocks (finished p))
