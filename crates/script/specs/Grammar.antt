-- The forms of a script's lines.
use Rattle.std.specs.Prelude.{ℕ, not, List, [], ◌∷◌, Some, None, codes, Option, nat_le, if◌then◌else◌}
use Rattle.std.specs.List.{concat, list_all}
use Rattle.std.specs.Option.{option_or}
use Rattle.std.specs.Str.{bytes_eq}
use Rattle.books.specs.Words.{procedure_of_word}
use Rattle.registry.specs.declared.book_name.BookName.{BookName}
use Rattle.registry.specs.declared.typed_note.TypedNote.{TypedNote}
use Rattle.registry.specs.BookName.{meaning_of, book_named}
use Rattle.lexer.specs.Pieces.{printable, words, uncommented}
use Rattle.lexer.specs.Numerals.{number_typed}
use Rattle.applying.specs.declared.row_draft.RowDraft.{RowDraft}
use Rattle.calls.specs.PlainValue.{AttachCall, CertifyCall, StrikeCall, ItemCall, RecordCall}
use Rattle.script.specs.OptionDo.{◌>>=◌}
use Rattle.script.specs.LineValue.{CommandValue, NoteCommand, FormatCommand, EnterCommand, CountersignCommand, WithdrawCommand, PlainCommand, LineValue, NothingLine, BookLine, HouseLine, RollLine, OpeningLine, CutsLine, CommandLine}

-- a procedure is typed by its word in the book, or by its number
abbrev pub typed_procedure : BookName → List ℕ → Option ℕ
typed_procedure b w = option_or (procedure_of_word (meaning_of b).words w) (number_typed w)

-- a cut number is at most 65,535
abbrev pub cut_typed : List ℕ → Option ℕ
cut_typed w = do
  n ← number_typed w
  if not (nat_le n 65535) then None else Some n

-- what each word stands for, if each stands for something
abbrev pub each_read : (List ℕ → Option ℕ) → List (List ℕ) → Option (List ℕ)
each_read read [] = Some []
each_read read (w ∷ ws) = do
  n ← read w
  ns ← each_read read ws
  Some (n ∷ ns)

-- a note is typed as a procedure, items a and b, and an amount
abbrev pub typed_note : BookName → List ℕ → List ℕ → List ℕ → List ℕ → Option TypedNote
typed_note book p a b n = do
  procedure ← typed_procedure book p
  a ← number_typed a
  b ← number_typed b
  amount ← number_typed n
  Some (record {
    book = book;
    draft = record { procedure = procedure; a = a; b = b; amount = amount };
  })

-- what stands behind the name of a line, by its words. At any other number of words, and where a
-- word does not stand for what it should, the line is bad

-- `book NAME`
abbrev pub book_line : List (List ℕ) → Option LineValue
book_line (name ∷ []) = do
  book ← book_named name
  Some (BookLine book)
book_line _ = None

-- `house N`
abbrev pub house_line : List (List ℕ) → Option LineValue
house_line (n ∷ []) = do
  house ← number_typed n
  Some (HouseLine house)
house_line _ = None

-- `roll WORD..`: the bytes of the words, one after another
abbrev pub roll_line : List (List ℕ) → Option LineValue
roll_line ws = Some (RollLine (concat ws))

-- `opening CODE..`
abbrev pub opening_line : List (List ℕ) → Option LineValue
opening_line ws = do
  opening ← each_read number_typed ws
  Some (OpeningLine opening)

-- `cuts N..`
abbrev pub cuts_line : List (List ℕ) → Option LineValue
cuts_line ws = do
  cuts ← each_read cut_typed ws
  Some (CutsLine cuts)

-- `note PROCEDURE A B N`
abbrev pub note_form : BookName → List (List ℕ) → Option CommandValue
note_form book (p ∷ (a ∷ (b ∷ (n ∷ [])))) = do
  note ← typed_note book p a b n
  Some (NoteCommand note)
note_form book _ = None

-- `format N`
abbrev pub format_form : List (List ℕ) → Option CommandValue
format_form (n ∷ []) = do
  house ← number_typed n
  Some (FormatCommand house)
format_form _ = None

-- `attach`
abbrev pub attach_form : List (List ℕ) → Option CommandValue
attach_form [] = Some (PlainCommand AttachCall)
attach_form _ = None

-- `enter SLIP USER WORD PROCEDURE A B N`
abbrev pub enter_form : BookName → List (List ℕ) → Option CommandValue
enter_form book (slip ∷ (user ∷ (word ∷ (p ∷ (a ∷ (b ∷ (n ∷ []))))))) = do
  user ← number_typed user
  note ← typed_note book p a b n
  Some (EnterCommand slip user word note)
enter_form book _ = None

-- `countersign SLIP USER WORD`
abbrev pub countersign_form : List (List ℕ) → Option CommandValue
countersign_form (slip ∷ (user ∷ (word ∷ []))) = do
  user ← number_typed user
  Some (CountersignCommand slip user word)
countersign_form _ = None

-- `withdraw SLIP`
abbrev pub withdraw_form : List (List ℕ) → Option CommandValue
withdraw_form (slip ∷ []) = Some (WithdrawCommand slip)
withdraw_form _ = None

-- a row is typed as its number, a user, a procedure, a role and a mask
abbrev pub typed_row : BookName → List ℕ → List ℕ → List ℕ → List ℕ → List ℕ → Option RowDraft
typed_row book row user procedure role mask = do
  row ← number_typed row
  user ← number_typed user
  procedure ← typed_procedure book procedure
  role ← number_typed role
  mask ← number_typed mask
  Some (record { row = row; user = user; procedure = procedure; role = role; mask = mask })

-- `certify WORD ROW USER PROCEDURE ROLE MASK`
abbrev pub certify_form : BookName → List (List ℕ) → Option CommandValue
certify_form book (word ∷ (row ∷ (user ∷ (procedure ∷ (role ∷ (mask ∷ [])))))) = do
  draft ← typed_row book row user procedure role mask
  Some (PlainCommand (CertifyCall word draft))
certify_form book _ = None

-- `strike WORD ROW`
abbrev pub strike_form : List (List ℕ) → Option CommandValue
strike_form (word ∷ (row ∷ [])) = do
  row ← number_typed row
  Some (PlainCommand (StrikeCall word row))
strike_form _ = None

-- `item I`
abbrev pub item_form : List (List ℕ) → Option CommandValue
item_form (i ∷ []) = do
  item ← number_typed i
  Some (PlainCommand (ItemCall item))
item_form _ = None

-- `record K`
abbrev pub record_form : List (List ℕ) → Option CommandValue
record_form (k ∷ []) = do
  number ← number_typed k
  Some (PlainCommand (RecordCall number))
record_form _ = None

-- a command by its name, under the book that is chosen above it
abbrev pub command : BookName → List ℕ → List (List ℕ) → Option CommandValue
command book name ws =
    if bytes_eq name (codes "note") then note_form book ws
    else if bytes_eq name (codes "enter") then enter_form book ws
    else if bytes_eq name (codes "countersign") then countersign_form ws
    else if bytes_eq name (codes "withdraw") then withdraw_form ws
    else if bytes_eq name (codes "certify") then certify_form book ws
    else if bytes_eq name (codes "strike") then strike_form ws
    else if bytes_eq name (codes "item") then item_form ws
    else if bytes_eq name (codes "record") then record_form ws
    else if bytes_eq name (codes "format") then format_form ws
    else if bytes_eq name (codes "attach") then attach_form ws
    else None

-- a command needs a book that was chosen above it
abbrev pub command_line : Option BookName → List ℕ → List (List ℕ) → Option LineValue
command_line None name ws = None
command_line (Some book) name ws = do
  asked ← command book name ws
  Some (CommandLine asked)

-- a line by its words
abbrev pub line_said : Option BookName → List (List ℕ) → Option LineValue
line_said chosen [] = Some NothingLine
line_said chosen (name ∷ ws) =
    if bytes_eq name (codes "book") then book_line ws
    else if bytes_eq name (codes "house") then house_line ws
    else if bytes_eq name (codes "roll") then roll_line ws
    else if bytes_eq name (codes "opening") then opening_line ws
    else if bytes_eq name (codes "cuts") then cuts_line ws
    else command_line chosen name ws

-- a line by its bytes, under the book that is chosen above it; none where the line is bad
abbrev pub understood : Option BookName → List ℕ → Option LineValue
understood chosen line =
    if not (list_all printable line) then None
    else line_said chosen (words (uncommented line))
