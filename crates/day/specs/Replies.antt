-- The replies to a script: in its order, what was said at once, and else what the desk told next.
use Rattle.std.specs.Prelude.{ℕ, List, [], ◌∷◌, Some, None, Option}
use Rattle.refusals.specs.declared.reason.Reason.TheVariants.{BadScript}
use Rattle.refusals.specs.declared.refusal.Refusal.{Refusal}
use Rattle.registry.specs.declared.book_name.BookName.{BookName}
use Rattle.script.specs.FaultValue.{FaultValue, TooLongFault, BadLineFault, place_of}
use Rattle.desk.specs.declared.told.Told.{Told}
use Rattle.desk.specs.declared.told.Told.TheVariants as told
use Rattle.day.specs.declared.source.Source.{Source}
use Rattle.day.specs.declared.source.Source.TheVariants.{Format, Attach, Line}
use Rattle.day.specs.declared.said.Said.{Said}
use Rattle.day.specs.declared.said.Said.TheVariants.{Refused, TooLong, NoSlip, Answered}
use Rattle.day.specs.declared.reply.Reply.{Reply}
use Rattle.day.specs.declared.plan.Expected.{Expected}

-- a line that asks for what cannot be is refusal 5, and its place is its number
abbrev pub bad_line : ℕ → Refusal
bad_line k = record { reason = BadScript; place = k }

-- the line of a reply: the format and the attach that a day begins with have none
abbrev pub line_of : Source → ℕ
line_of Format = 0
line_of Attach = 0
line_of (Line k) = k

-- what is said of what the desk told of a book: where no slip of the name waits, the line is refused
abbrev pub said_of : BookName → Source → Told → Said
said_of b source told.NoSuchSlip = NoSlip (bad_line (line_of source))
said_of b source t = Answered b t

-- the replies in a book; where the answers end, so do the replies
abbrev pub replies_of : BookName → List Expected → List Told → List Reply
replies_of b [] answers = []
replies_of b (x ∷ xs) answers =
    elim x.said [
      | Some s ↦ record { source = x.source; said = s } ∷ replies_of b xs answers
      | None ↦ elim answers [
        | [] ↦ []
        | t ∷ later ↦
            record { source = x.source; said = said_of b x.source t } ∷ replies_of b xs later
      ]
    ]

-- a script that is too long is refused, and so is a line that no form fits
abbrev pub said_of_fault : FaultValue → Said
said_of_fault TooLongFault = TooLong (bad_line 0)
said_of_fault (BadLineFault l) = Refused (bad_line l.number)

abbrev pub reply_to_fault : FaultValue → Reply
reply_to_fault f = record { source = Line (place_of f); said = said_of_fault f }

-- it comes last
abbrev pub last_reply : Option FaultValue → List Reply
last_reply None = []
last_reply (Some f) = reply_to_fault f ∷ []
