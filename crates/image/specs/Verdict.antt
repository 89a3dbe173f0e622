-- The verdict on an image: how many records stand, or the first refusal that it earns.
use Rattle.std.specs.Prelude.{◌≡◌, ℕ, zero, suc, not, ◌&&◌, List, [], ◌∷◌, length, Some, None, Ok, Err, Option, Result, ◌==◌, nat_le, if◌then◌else◌}
use Rattle.std.specs.Option.{option_or}
use Rattle.std.specs.Str.{bytes_eq}
use Rattle.refusals.specs.declared.reason.Reason.TheVariants.{BadSize, InvalidOpening, BadCommitBlock, BadHead, BadRecord, BlockDiffers}
use Rattle.refusals.specs.declared.refusal.Refusal.{Refusal}
use Rattle.refusals.specs.Refused.{refused, ◌>>=◌}
use Rattle.books.specs.Meaning.{Meaning}
use Rattle.changes.specs.CommitBlock.{lawful_commit}
use Rattle.journals.specs.Redo.{commit_block, finished, home_blocks}
use Rattle.records.specs.declared.record.Record.{Record}
use Rattle.layout.specs.declared.head.Head.{Head}
use Rattle.layout.specs.Head.{head_of}
use Rattle.applying.specs.BookState.{BookState, opened}
use Rattle.applying.specs.Applied.{applied}
use Rattle.image.specs.declared.part.Part.{Part}
use Rattle.image.specs.declared.part.Part.TheVariants.{Items, Rows}
use Rattle.image.specs.Home.{block_at, part_on, opening_on, record_on, blocks_of_codes, blocks_of_rows}
use Rattle.image.specs.Layout.{head_block, first_block, lawful_size, room}
use Rattle.image.specs.Lawful.{LawfulImage}

-- record k, in exact form (21)
abbrev pub exact_record : ℕ → Option Record → Result Record Refusal
exact_record k None = refused BadRecord k
exact_record k (Some x) = Ok x

-- a record that is refused when it is applied makes the image unlawful at its number (21)
abbrev pub at_record : ℕ → Result BookState Refusal → Result BookState Refusal
at_record k (Ok s) = Ok s
at_record k (Err e) = refused BadRecord k

-- record k, if one was found in exact form, is applied
abbrev pub replayed_record : Meaning → ℕ → ℕ → Option Record → BookState → Result BookState Refusal
replayed_record m most k found s = do
  x ← exact_record k found
  at_record k (applied m most s x)

abbrev pub replayed_one : Meaning → ℕ → List (List ℕ) → ℕ → BookState → Result BookState Refusal
replayed_one m most h k s = replayed_record m most k (record_on h k) s

-- n records from number k on
abbrev pub replayed : Meaning → ℕ → List (List ℕ) → ℕ → ℕ → BookState → Result BookState Refusal
replayed m most h zero k s = Ok s
replayed m most h (suc n) k s = replayed_one m most h k s >>= replayed m most h n (suc k)

-- the number of the first block that is not the one expected; the blocks found are numbered from k
-- on
abbrev pub differing : ℕ → List (List ℕ) → List (List ℕ) → Option ℕ
differing k [] xs = None
differing k (b ∷ bs) [] = None
differing k (b ∷ bs) (x ∷ xs) = if not (bytes_eq b x) then Some k else differing (suc k) bs xs

-- the same of a part
abbrev pub part_differing : List (List ℕ) → Part → List (List ℕ) → Option ℕ
part_differing h part expected = differing (first_block part) (part_on h part) expected

-- the first item or row block that is not what stands
abbrev pub differing_block : List (List ℕ) → BookState → Option ℕ
differing_block h s =
    option_or (part_differing h Items (blocks_of_codes s.items)) (part_differing h Rows (blocks_of_rows s.rows))

-- a block differs (22)
abbrev pub compared : ℕ → Option ℕ → Result ℕ Refusal
compared n None = Ok n
compared n (Some k) = refused BlockDiffers k

-- a head, of this book, with a count for which there is room (20)
abbrev pub checked_head : Meaning → ℕ → Option Head → Result Head Refusal
checked_head m most None = refused BadHead head_block
checked_head m most (Some d) =
    if not (d.kind == m.kind && nat_le d.count most) then refused BadHead head_block else Ok d

-- a valid opening (18)
abbrev pub checked_opening : Meaning → List ℕ → Result BookState Refusal
checked_opening m codes = if not (m.valid codes) then refused InvalidOpening 0 else Ok (opened codes)

-- the home blocks, on a drive with room for so many records: head, opening, records, items and rows
abbrev pub home_verdict : Meaning → ℕ → List (List ℕ) → Result ℕ Refusal
home_verdict m most h = do
  d ← checked_head m most (head_of (block_at h head_block))
  s ← checked_opening m (opening_on h)
  t ← replayed m most h d.count 1 s
  compared d.count (differing_block h t)

-- the size (17), the commit block (19), and then what finishing leaves
abbrev pub verdict : Meaning → List (List ℕ) → Result ℕ Refusal
verdict m p =
    if not (lawful_size (length p)) then refused BadSize (length p)
    else if not (lawful_commit (length p) (commit_block p)) then refused BadCommitBlock 0
    else home_verdict m (room (length p)) (home_blocks (finished p))

-- the verdict accepts exactly the lawful images, and answers how many records stand
pub record AcceptsExactlyLawful : Type 0 where
  pub accepts : (m : Meaning) (p : List (List ℕ)) (l : LawfulImage m p) → verdict m p ≡ Ok l.lawful_home.head.count
  pub accepted : (m : Meaning) (p : List (List ℕ)) (n : ℕ) → verdict m p ≡ Ok n → LawfulImage m p
