-- Who may ask, and what an open monitor answers without touching its drive.
use Rattle.std.specs.Prelude.{ℕ, not, ◌&&◌, List, Some, None, Ok, Option, Result, ◌==◌, nat_le}
use Rattle.std.specs.Prelude.{if◌then◌else◌}
use Rattle.refusals.specs.declared.reason.Reason.TheVariants.{BadWord, EntererNotEntitled, Foreign}
use Rattle.refusals.specs.declared.reason.Reason.TheVariants.{NoSuchEntry}
use Rattle.refusals.specs.declared.refusal.Refusal.{Refusal}
use Rattle.refusals.specs.Refused.{refused, ◌>>◌}
use Rattle.books.specs.Meaning.{Meaning}
use Rattle.notes.specs.declared.note_numbers.NoteNumbers.{NoteNumbers}
use Rattle.rights.specs.Covers.{uncovered}
use Rattle.rights.specs.declared.row_question.RowQuestion.{RowQuestion}
use Rattle.rights.specs.declared.role.Role.TheVariants.{Enter}
use Rattle.records.specs.declared.record.Record.{Record}
use Rattle.applying.specs.Applied.{none_uncovered}
use Rattle.image.specs.Home.{house_on, count_on, rows_on, record_on}
use Rattle.image.specs.Reading.{code_on, is_word_on}
use Rattle.monitor.specs.declared.slip_numbers.SlipNumbers.{SlipNumbers}
use Rattle.monitor.specs.MonitorState.{MonitorState, home_of}
use Rattle.monitor.specs.Stages.{may_work}

-- the user is one of 0 to 15, and this is that user's word (8)
abbrev pub identified : List (List ℕ) → ℕ → List ℕ → Result (Unit {0}) Refusal
identified h user word = if not (is_word_on h user word) then refused BadWord user else Ok tt

-- the note is this book's (10)
abbrev pub own_note : Meaning → NoteNumbers → Result (Unit {0}) Refusal
own_note m note = if not (note.kind == m.kind) then refused Foreign note.kind else Ok tt

-- what enter asks of the rows
abbrev pub asked_of : ℕ → NoteNumbers → RowQuestion
asked_of user note = record { user = user; procedure = note.procedure; role = Enter }

-- the user is entitled to the note's procedure on both its items, in role 1 (9)
abbrev pub may_enter : List (List ℕ) → ℕ → NoteNumbers → Result (Unit {0}) Refusal
may_enter h user note =
    none_uncovered EntererNotEntitled (uncovered (rows_on h) (asked_of user note) note.a note.b)

-- the slip of a note that a user entered at this house
abbrev pub slip_of : List (List ℕ) → ℕ → NoteNumbers → SlipNumbers
slip_of h user note = record { numbers = note; enterer = user; house = house_on h }

-- enter: the note is this book's (10), the word is the user's (8), and the user may enter it (9)
abbrev pub entered : Meaning → MonitorState → ℕ → List ℕ → NoteNumbers → Result SlipNumbers Refusal
entered m s user word note = do
  may_work s.stage
  own_note m note
  identified (home_of s) user word
  may_enter (home_of s) user note
  Ok (slip_of (home_of s) user note)

-- what was found, under a number
abbrev pub found : {X : Type 0} → ℕ → Option X → Result X Refusal
found k None = refused NoSuchEntry k
found k (Some x) = Ok x

-- item: its code (26 where there is no such item)
abbrev pub item_found : MonitorState → ℕ → Result ℕ Refusal
item_found s i = do
  may_work s.stage
  found i (code_on (home_of s) i)

-- a record of this number is counted
abbrev pub is_counted : ℕ → ℕ → Result (Unit {0}) Refusal
is_counted k count = if not (nat_le 1 k && nat_le k count) then refused NoSuchEntry k else Ok tt

-- record: its fields (26 where there is no such record)
abbrev pub record_found : MonitorState → ℕ → Result Record Refusal
record_found s k = do
  may_work s.stage
  is_counted k (count_on (home_of s))
  found k (record_on (home_of s) k)
