-- When a row may be filled or freed.
use Rattle.std.specs.Prelude.{ℕ, ◌<◌, ◌≤◌, if◌then◌else◌, not, ◌&&◌, Ok, Result, ◌==◌, nat_le, nat_lt, slice_index_or}
use Rattle.refusals.specs.declared.reason.Reason.TheVariants.{AuditFull, BadRow, RowTaken}
use Rattle.refusals.specs.declared.refusal.Refusal.{Refusal}
use Rattle.refusals.specs.declared.places.RowPlace.{RowPlace}
use Rattle.refusals.specs.declared.places.RowPlace.TheVariants as at
use Rattle.refusals.specs.Places.{row_place_number}
use Rattle.refusals.specs.Refused.{refused, ◌>>=◌, ◌>>◌}
use Rattle.books.specs.Meaning.{Meaning, has_procedure}
use Rattle.rights.specs.Covers.{is_role, free, is_free}
use Rattle.rights.specs.declared.row.Row.{Row}
use Rattle.records.specs.declared.record.Certification.{Certification}
use Rattle.applying.specs.declared.row_draft.RowDraft.{RowDraft}
use Rattle.applying.specs.BookState.{BookState, with_row}

-- what the row of a certification was typed as
abbrev pub row_draft_of : Certification → RowDraft
row_draft_of c = record { row = c.row; user = c.user; procedure = c.procedure; role = c.role; mask = c.mask }

-- what a row that is asked for is to hold
abbrev pub asked_row : RowDraft → Row
asked_row d = record { user = d.user; procedure = d.procedure; role = d.role; mask = d.mask }

-- a certification that a record has room for: the row is one of 32, and each other number fits a
-- byte
pub record InBytes (d : RowDraft) : Type 0 where
  pub row : d.row ≤ 31
  pub user : d.user < 256
  pub procedure : d.procedure < 256
  pub role : d.role < 256

-- refused as a row that cannot be certified or struck (23), by what is at fault with it
abbrev pub bad_row : {X : Type 0} → RowPlace → Result X Refusal
bad_row place = refused BadRow (row_place_number place)

-- the row that a certification asks for, or what is at fault with it (23): the row above 31 (place
-- 1), the user not from 1 to 15 (2), a procedure without a word (3), a role that is neither 1 nor 2
-- (4), a mask of 0 (5)
abbrev pub checked_row : Meaning → RowDraft → Result Row Refusal
checked_row m d =
    if not (nat_le d.row 31) then bad_row at.Row
    else if not (nat_le 1 d.user && nat_le d.user 15) then bad_row at.User
    else if not (has_procedure m d.procedure) then bad_row at.Procedure
    else if not (is_role d.role) then bad_row at.Role
    else if d.mask == 0 then bad_row at.Mask
    else Ok (asked_row d)

-- there is room for one record more (13)
abbrev pub had_room : ℕ → BookState → Result (Unit {0}) Refusal
had_room room s = if not (nat_lt s.count room) then refused AuditFull s.count else Ok tt

-- a row replaced, where there is room for the record
abbrev pub row_set : ℕ → BookState → ℕ → Row → Result BookState Refusal
row_set room s k w = do
  had_room room s
  Ok (with_row s k w)

-- the row is free (24), and there is room (13)
abbrev pub row_filled : ℕ → BookState → ℕ → Row → Result BookState Refusal
row_filled room s k w = if not (is_free (slice_index_or s.rows k free)) then refused RowTaken k else row_set room s k w

-- certification: the row's tests (23), then that it is free (24), then room (13)
abbrev pub certified : Meaning → ℕ → BookState → RowDraft → Result BookState Refusal
certified m room s d = do
  w ← checked_row m d
  row_filled room s d.row w

-- strike: there is such a row (23), it is taken (24), and there is room (13)
abbrev pub struck : ℕ → BookState → ℕ → Result BookState Refusal
struck room s k =
    if not (nat_le k 31) then bad_row at.Row
    else if is_free (slice_index_or s.rows k free) then refused RowTaken k
    else row_set room s k free
