-- What the books hold at a moment, and what a record does to it.
use Rattle.std.specs.Prelude.{ℕ, ◌+◌, List, replicate, Some, None, Ok, Err, Option, Result, slice_set}
use Rattle.refusals.specs.declared.places.StepPlace.{StepPlace}
use Rattle.books.specs.declared.draft.Draft.{Draft}
use Rattle.books.specs.Meaning.{Meaning, codes_at}
use Rattle.rights.specs.Covers.{free}
use Rattle.rights.specs.declared.row.Row.{Row}
use Rattle.records.specs.declared.record.Certification.{Certification}
use Rattle.records.specs.declared.record.Posting.{Posting}
use Rattle.records.specs.declared.record.Record.{Record}
use Rattle.records.specs.declared.record.Record.TheVariants as entry
use Rattle.applying.specs.declared.book_state.BookState as memory

-- the codes of the items, the rows of the rights, and how many records stand
pub record BookState : Type 0 where
  pub items : List ℕ
  pub rows : List Row
  pub count : ℕ

-- what the books hold as the code holds it in memory, but for the room
abbrev pub state_of : memory.BookState → BookState
state_of h = record { items = h.items; rows = h.rows; count = h.count }

-- at an opening: its items, 32 free rows, no records
abbrev pub opened : List ℕ → BookState
opened opening = record { items = opening; rows = replicate 32 free; count = 0 }

-- the codes of items a and b replaced by a pair of codes, and one record more
abbrev pub with_codes : BookState → ℕ → ℕ → ℕ × ℕ → BookState
with_codes s a b codes =
    record { items = slice_set (slice_set s.items a codes.0) b codes.1; rows = s.rows; count = s.count + 1 }

-- a row replaced, and one record more
abbrev pub with_row : BookState → ℕ → Row → BookState
with_row s k w = record { items = s.items; rows = slice_set s.rows k w; count = s.count + 1 }

-- what the note of a posting was typed as
abbrev pub draft_of : Posting → Draft
draft_of p = record { procedure = p.procedure; a = p.a; b = p.b; amount = p.amount }

-- what the row of a certification holds
abbrev pub row_of : Certification → Row
row_of c = record { user = c.user; procedure = c.procedure; role = c.role; mask = c.mask }

-- what the step of a draft gives from what stands
abbrev pub step_on : Meaning → BookState → Draft → Result (ℕ × ℕ) StepPlace
step_on m s d = m.step d (codes_at s.items d.a d.b)

-- what the codes that a step gave make of what stands; nothing if it refused
abbrev pub after_step : BookState → ℕ → ℕ → Result (ℕ × ℕ) StepPlace → Option BookState
after_step s a b (Ok codes) = Some (with_codes s a b codes)
after_step s a b (Err e) = None

-- the effect of a record, whatever tests it would pass: two codes that the step gives, a row filled
-- or a row freed, and the record itself; nothing if the step refuses
abbrev pub effect : Meaning → BookState → Record → Option BookState
effect m s (entry.Posting p) = after_step s p.a p.b (step_on m s (draft_of p))
effect m s (entry.Certification c) = Some (with_row s c.row (row_of c))
effect m s (entry.Strike k) = Some (with_row s k free)
