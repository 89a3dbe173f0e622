-- How a record is printed in a line, for people, with the word of its procedure.
use Rattle.std.specs.Prelude.{ℕ, List, [], ◌++◌, Some, None, Option, codes, option_and_then}
use Rattle.books.specs.Words.{word_of}
use Rattle.records.specs.declared.record.Record.{Record}
use Rattle.records.specs.declared.record.Record.TheVariants as entry
use Rattle.records.specs.Texts.{record_text}
use Rattle.registry.specs.declared.book_name.BookName.{BookName}
use Rattle.registry.specs.BookName.{meaning_of}

-- the name of a record's kind
abbrev pub kind_name : Record → List ℕ
kind_name (entry.Posting p) = codes "posting"
kind_name (entry.Certification c) = codes "certification"
kind_name (entry.Strike row) = codes "strike"

-- the procedure of a record, if it has one
abbrev pub procedure_of : Record → Option ℕ
procedure_of (entry.Posting p) = Some p.procedure
procedure_of (entry.Certification c) = Some c.procedure
procedure_of (entry.Strike row) = None

-- the word of a record's procedure in a book, if it has one
abbrev pub word_in : BookName → Record → Option (List ℕ)
word_in book x = option_and_then (word_of (meaning_of book).words) (procedure_of x)

-- a word in brackets behind a blank: " (charge)"
abbrev pub in_brackets : Option (List ℕ) → List ℕ
in_brackets (Some word) = codes " (" ++ (word ++ codes ")")
in_brackets None = []

-- a record, and the word of its procedure: "posting: enterer 1, [and so on], n 4500 (charge)"
abbrev pub record_line : BookName → Record → List ℕ
record_line book x = record_text x ++ in_brackets (word_in book x)
