-- When a draft is a note, and which refusal it earns otherwise.
use Rattle.std.specs.Prelude.{◌≢◌, ◌≤◌, not, if◌then◌else◌, Ok, Result, ◌==◌, nat_le}
use Rattle.refusals.specs.declared.reason.Reason.TheVariants.{NoSuchProcedure, NoSuchNoteItem, SameItem, BadAmount}
use Rattle.refusals.specs.declared.refusal.Refusal.{Refusal}
use Rattle.refusals.specs.Refused.{refused}
use Rattle.books.specs.declared.draft.Draft.{Draft}
use Rattle.books.specs.Meaning.{Meaning, amount_ok, has_procedure}
use Rattle.notes.specs.declared.note.Note.TheInside.{Inside}
use Rattle.notes.specs.declared.note_numbers.NoteNumbers.{NoteNumbers}

-- a note is seen as its numbers
abbrev pub numbers_of : Inside → NoteNumbers
numbers_of n = record { kind = n.kind; procedure = n.procedure; a = n.a; b = n.b; amount = n.amount }

-- what is known of the numbers of every note: two different items from 0 to 63, and an amount from
-- 1 to 1,000,000,000
pub record IsNote (n : NoteNumbers) : Type 0 where
  pub a_within : n.a ≤ 63
  pub b_within : n.b ≤ 63
  pub apart : n.a ≢ n.b
  pub some_amount : 1 ≤ n.amount
  pub amount_within : n.amount ≤ 1000000000

-- the numbers of a draft, in a book's note
abbrev pub numbers_in : Meaning → Draft → NoteNumbers
numbers_in m d = record { kind = m.kind; procedure = d.procedure; a = d.a; b = d.b; amount = d.amount }

-- the four tests in their order: procedure (1), items (2, a before b), two items (3), amount (4);
-- the place is the value at fault
abbrev pub noted : Meaning → Draft → Result NoteNumbers Refusal
noted m d =
    if not (has_procedure m d.procedure) then refused NoSuchProcedure d.procedure
    else if not (nat_le d.a 63) then refused NoSuchNoteItem d.a
    else if not (nat_le d.b 63) then refused NoSuchNoteItem d.b
    else if d.b == d.a then refused SameItem d.b
    else if not (amount_ok m.ceiling d.amount) then refused BadAmount d.amount
    else Ok (numbers_in m d)
