-- What a typed note is made into.
use Rattle.std.specs.Prelude.{Result}
use Rattle.refusals.specs.declared.refusal.Refusal.{Refusal}
use Rattle.notes.specs.declared.note_numbers.NoteNumbers.{NoteNumbers}
use Rattle.notes.specs.Notes.{noted}
use Rattle.registry.specs.declared.typed_note.TypedNote.{TypedNote}
use Rattle.registry.specs.BookName.{meaning_of}

-- a note that was typed, made in its book
abbrev pub note_made : TypedNote → Result NoteNumbers Refusal
note_made t = noted (meaning_of t.book) t.draft
