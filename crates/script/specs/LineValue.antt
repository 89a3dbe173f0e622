-- What one line of a script says, with its words as lists of bytes.
use Rattle.std.specs.Prelude.{ℕ, List, vec_items}
use Rattle.calls.specs.PlainValue.{PlainValue, plain_value}
use Rattle.registry.specs.declared.book_name.BookName.{BookName}
use Rattle.registry.specs.declared.typed_note.TypedNote.{TypedNote}
use Rattle.script.specs.declared.command.Command.{Command}
use Rattle.script.specs.declared.command.Command.TheVariants.{Note, Format, Enter, Countersign, Withdraw, Plain}
use Rattle.script.specs.declared.line.Line.{Line}
use Rattle.script.specs.declared.line.Line.TheVariants.{Nothing, Book, House, Roll, Opening, Cuts, Asks}

-- what a line asks for
pub data CommandValue : Type 0 where
  -- that a note is made or refused, and no more
  NoteCommand : TypedNote → CommandValue
  -- that the drive is formatted, under a house number
  FormatCommand : ℕ → CommandValue
  -- that a note is entered on a slip, by a user with his word
  EnterCommand : List ℕ → ℕ → List ℕ → TypedNote → CommandValue
  -- that the note of a slip is countersigned, by a user with his word
  CountersignCommand : List ℕ → ℕ → List ℕ → CommandValue
  -- that the note of a slip is withdrawn
  WithdrawCommand : List ℕ → CommandValue
  -- a call that needs no slip
  PlainCommand : PlainValue → CommandValue

-- what a line says
pub data LineValue : Type 0 where
  -- nothing: it is blank, or only a comment
  NothingLine : LineValue
  -- which book the lines below it are about
  BookLine : BookName → LineValue
  -- the house number
  HouseLine : ℕ → LineValue
  -- more bytes of the roll
  RollLine : List ℕ → LineValue
  -- more codes of the opening
  OpeningLine : List ℕ → LineValue
  -- more cut numbers
  CutsLine : List ℕ → LineValue
  -- what it asks for
  CommandLine : CommandValue → LineValue

-- a command as it was read
abbrev pub command_value : Command → CommandValue
command_value (Note n) = NoteCommand n
command_value (Format h) = FormatCommand h
command_value (Enter slip user word n) = EnterCommand slip.now user word.now n
command_value (Countersign slip user word) = CountersignCommand slip.now user word.now
command_value (Withdraw slip) = WithdrawCommand slip.now
command_value (Plain c) = PlainCommand (plain_value c)

-- a line as it was read
abbrev pub line_value : Line → LineValue
line_value Nothing = NothingLine
line_value (Book b) = BookLine b
line_value (House n) = HouseLine n
line_value (Roll v) = RollLine (vec_items v)
line_value (Opening v) = OpeningLine (vec_items v)
line_value (Cuts v) = CutsLine (vec_items v)
line_value (Asks c) = CommandLine (command_value c)
