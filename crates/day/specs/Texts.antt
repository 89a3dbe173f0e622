-- How replies are printed, a line for each.
use Rattle.std.specs.Prelude.{ℕ, List, ◌++◌, Ok, Err, codes, decimal, vec_items}
use Rattle.refusals.specs.Texts as texts
use Rattle.notes.specs.declared.note_numbers.NoteNumbers.{NoteNumbers}
use Rattle.monitor.specs.declared.slip_numbers.SlipNumbers.{SlipNumbers}
use Rattle.registry.specs.declared.book_name.BookName.{BookName}
use Rattle.registry.specs.Texts.{code_text}
use Rattle.reports.specs.Texts.{record_line}
use Rattle.reports.specs.Table.{table_text}
use Rattle.desk.specs.declared.told.Told.{Told}
use Rattle.desk.specs.declared.told.Told.TheVariants as told
use Rattle.day.specs.declared.audit.Audit.{Audit}
use Rattle.day.specs.declared.audit.Audit.TheVariants as audit
use Rattle.day.specs.declared.source.Source.{Source}
use Rattle.day.specs.declared.source.Source.TheVariants as source
use Rattle.day.specs.declared.said.Said.{Said}
use Rattle.day.specs.declared.said.Said.TheVariants as said
use Rattle.day.specs.declared.reply.Reply.{Reply}

-- the numbers of a note
abbrev pub note_text : NoteNumbers → List ℕ
note_text n =
    codes "kind " ++ (decimal n.kind
    ++ (codes ", procedure " ++ (decimal n.procedure
    ++ (codes ", a " ++ (decimal n.a
    ++ (codes ", b " ++ (decimal n.b
    ++ (codes ", n " ++ decimal n.amount))))))))

-- the numbers of a slip
abbrev pub slip_text : SlipNumbers → List ℕ
slip_text s =
    note_text s.numbers ++ (codes ", entered by " ++ (decimal s.enterer
    ++ (codes " at house " ++ decimal s.house)))

-- the code of an item, and what it stands for in the book: "18446744073709547116 (-45.00)"
abbrev pub item_text : BookName → ℕ → List ℕ
item_text b n = decimal n ++ (codes " (" ++ (code_text b n ++ codes ")"))

-- what the desk tells of a book
abbrev pub no_slip_text : List ℕ
no_slip_text = codes "no slip of this name waits"

abbrev pub told_text : BookName → Told → List ℕ
told_text b (told.Count (Ok n)) = codes "records: " ++ decimal n
told_text b (told.Count (Err e)) = texts.refusal_text e
told_text b (told.Slip (Ok s)) = codes "slip: " ++ slip_text s
told_text b (told.Slip (Err e)) = texts.refusal_text e
told_text b (told.Code (Ok n)) = codes "code " ++ item_text b n
told_text b (told.Code (Err e)) = texts.refusal_text e
told_text b (told.Record (Ok x)) = codes "record: " ++ record_line b x
told_text b (told.Record (Err e)) = texts.refusal_text e
told_text b (told.Withdrawn s) = codes "withdrawn: " ++ slip_text s
told_text b told.NoSuchSlip = no_slip_text

abbrev pub said_text : Said → List ℕ
said_text (said.Note n) = codes "note made: " ++ note_text n
said_text (said.Refused e) = texts.refusal_text e
said_text (said.TooLong e) = texts.heading_text e ++ codes ": the script is too long"
said_text (said.NoSlip e) = texts.heading_text e ++ (codes ": " ++ no_slip_text)
said_text (said.Answered b t) = told_text b t

abbrev pub source_text : Source → List ℕ
source_text source.Format = codes "format"
source_text source.Attach = codes "attach"
source_text (source.Line k) = codes "line " ++ decimal k

-- the whole line: "line 29: records: 5"
abbrev pub reply_text : Reply → List ℕ
reply_text r = source_text r.source ++ (codes ": " ++ said_text r.said)

-- the audit: a table of the records, or why there is none to be seen
abbrev pub audit_text : Audit → List ℕ
audit_text audit.Shut = codes "audit: the monitor is shut"
audit_text audit.Dark = codes "audit: the monitor is dark"
audit_text (audit.Records b v) = table_text b (vec_items v)
