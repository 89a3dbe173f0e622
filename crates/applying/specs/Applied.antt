-- Applying one record, and a list of them: the tests of the record's call in their order, then its
-- effect.
use Rattle.std.specs.Prelude.{ℕ, if◌then◌else◌, not, List, [], ◌∷◌, Some, None, Ok, Err, Option, Result, ◌==◌}
use Rattle.refusals.specs.declared.reason.Reason.{Reason}
use Rattle.refusals.specs.declared.reason.Reason.TheVariants.{EntererNotEntitled, SamePerson, CountersignerNotEntitled, StepRefused, InvalidAfter}
use Rattle.refusals.specs.declared.refusal.Refusal.{Refusal}
use Rattle.refusals.specs.declared.places.StepPlace.{StepPlace}
use Rattle.refusals.specs.Places.{step_place_number}
use Rattle.refusals.specs.Refused.{refused, ◌>>=◌, ◌>>◌}
use Rattle.books.specs.Meaning.{Meaning}
use Rattle.notes.specs.declared.note_numbers.NoteNumbers.{NoteNumbers}
use Rattle.notes.specs.Notes.{noted}
use Rattle.rights.specs.Covers.{uncovered}
use Rattle.rights.specs.declared.row_question.RowQuestion.{RowQuestion}
use Rattle.rights.specs.declared.role.Role.TheVariants.{Enter, Countersign}
use Rattle.records.specs.declared.record.Posting.{Posting}
use Rattle.records.specs.declared.record.Record.{Record}
use Rattle.records.specs.declared.record.Record.TheVariants as entry
use Rattle.applying.specs.BookState.{BookState, with_codes, step_on, draft_of}
use Rattle.applying.specs.Rows.{certified, struck, had_room, row_draft_of}

-- the posting of a note's numbers by the user who entered it and the user who countersigns it
abbrev pub posting_of : NoteNumbers → ℕ → ℕ → Posting
posting_of n enterer countersigner = record {
  enterer = enterer;
  countersigner = countersigner;
  procedure = n.procedure;
  a = n.a;
  b = n.b;
  amount = n.amount;
}

-- what the rows are asked of the user who entered a posting
abbrev pub enters : Posting → RowQuestion
enters p = record { user = p.enterer; procedure = p.procedure; role = Enter }

-- and of the user who countersigned it
abbrev pub countersigns : Posting → RowQuestion
countersigns p = record { user = p.countersigner; procedure = p.procedure; role = Countersign }

-- the enterer is not the countersigner (11)
abbrev pub two_people : Posting → Result (Unit {0}) Refusal
two_people p = if p.countersigner == p.enterer then refused SamePerson p.countersigner else Ok tt

-- refused at the item that no row covers, if there is one
abbrev pub none_uncovered : Reason → Option ℕ → Result (Unit {0}) Refusal
none_uncovered why None = Ok tt
none_uncovered why (Some item) = refused why item

-- the codes that the step gives, or the place where it refuses (14)
abbrev pub codes_given : Result (ℕ × ℕ) StepPlace → Result (ℕ × ℕ) Refusal
codes_given (Ok codes) = Ok codes
codes_given (Err place) = refused StepRefused (step_place_number place)

-- the list is valid (15)
abbrev pub if_valid : Meaning → BookState → Result BookState Refusal
if_valid m t = if not (m.valid t.items) then refused InvalidAfter 0 else Ok t

-- a posting of a note: two different users (11), the enterer entitled in role 1 (9), the
-- countersigner in role 2 (12), room (13), the step (14), a valid list after it (15)
abbrev pub posted : Meaning → ℕ → BookState → Posting → Result BookState Refusal
posted m room s p = do
  two_people p
  none_uncovered EntererNotEntitled (uncovered s.rows (enters p) p.a p.b)
  none_uncovered CountersignerNotEntitled (uncovered s.rows (countersigns p) p.a p.b)
  had_room room s
  codes ← codes_given (step_on m s (draft_of p))
  if_valid m (with_codes s p.a p.b codes)

-- one record, where there is room for so many; a posting after the four tests of its note (1 to 4)
abbrev pub applied : Meaning → ℕ → BookState → Record → Result BookState Refusal
applied m room s (entry.Posting p) = do
  noted m (draft_of p)
  posted m room s p
applied m room s (entry.Certification c) = certified m room s (row_draft_of c)
applied m room s (entry.Strike k) = struck room s k

-- a list of records in order, up to the first that is refused
abbrev pub applied_all : Meaning → ℕ → BookState → List Record → Result BookState Refusal
applied_all m room s [] = Ok s
applied_all m room s (x ∷ xs) = do
  t ← applied m room s x
  applied_all m room t xs
