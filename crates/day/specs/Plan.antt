-- What each command of a script comes to: something that is said at once, or a request to the desk,
-- whose answer is the reply.
use Rattle.std.specs.Prelude.{ℕ, List, [], ◌∷◌, ◌++◌, map, Some, None, Ok, Err, vec_items, Option, Result}
use Rattle.std.specs.List.{flat_map}
use Rattle.refusals.specs.declared.refusal.Refusal.{Refusal}
use Rattle.notes.specs.declared.note_numbers.NoteNumbers.{NoteNumbers}
use Rattle.calls.specs.PlainValue.{FormatCall, AttachCall}
use Rattle.registry.specs.TypedNote.{note_made}
use Rattle.script.specs.LineValue.{CommandValue, NoteCommand, FormatCommand, EnterCommand, CountersignCommand, WithdrawCommand, PlainCommand}
use Rattle.script.specs.Reading.{SetupValue, NumberedValue}
use Rattle.desk.specs.declared.request.Request.{Request}
use Rattle.desk.specs.Serving.{RequestValue, EnterRequest, CountersignRequest, WithdrawRequest, PlainRequest, request_value}
use Rattle.day.specs.declared.start.Start.{Start}
use Rattle.day.specs.declared.start.Start.TheVariants as start
use Rattle.day.specs.declared.source.Source.TheVariants.{Format, Attach, Line}
use Rattle.day.specs.declared.said.Said.{Said}
use Rattle.day.specs.declared.said.Said.TheVariants.{Note, Refused}
use Rattle.day.specs.declared.plan.Expected.{Expected}
use Rattle.day.specs.declared.plan.Plan.{Plan}

-- what is said of a note that is made, and no more
abbrev pub note_said : Result NoteNumbers Refusal → Said
note_said (Ok n) = Note n
note_said (Err e) = Refused e

-- a note that was made is entered; where it was refused, that is said, and nothing is asked
abbrev pub entering_of : List ℕ → ℕ → List ℕ → Result NoteNumbers Refusal → Result RequestValue Said
entering_of name user word (Ok n) = Ok (EnterRequest name user word n)
entering_of name user word (Err e) = Err (Refused e)

-- a format under a house number, with the roll and opening that the script sets up
abbrev pub format_asked : SetupValue → ℕ → RequestValue
format_asked g house = PlainRequest (FormatCall house g.roll g.opening)

-- what a command comes to: what is asked of the desk, or else what is said at once
abbrev pub planned : SetupValue → CommandValue → Result RequestValue Said
planned g (NoteCommand t) = Err (note_said (note_made t))
planned g (FormatCommand house) = Ok (format_asked g house)
planned g (EnterCommand name user word t) = entering_of name user word (note_made t)
planned g (CountersignCommand name user word) = Ok (CountersignRequest name user word)
planned g (WithdrawCommand name) = Ok (WithdrawRequest name)
planned g (PlainCommand c) = Ok (PlainRequest c)

-- a plan by what its request asks for
abbrev pub plan_of : Result Request Said → Result RequestValue Said
plan_of (Ok request) = Ok (request_value request)
plan_of (Err said) = Err said

-- what the plan of a day asks of the desk, and the replies that it is to have
abbrev pub requests_in : Plan → List RequestValue
requests_in p = map request_value (vec_items p.requests)

abbrev pub expected_in : Plan → List Expected
expected_in p = vec_items p.expected

-- what a plan asks of the desk: one thing or nothing
abbrev pub asks : Result RequestValue Said → List RequestValue
asks (Ok q) = q ∷ []
asks (Err said) = []

-- what it says at once
abbrev pub said_at_once : Result RequestValue Said → Option Said
said_at_once (Ok q) = None
said_at_once (Err said) = Some said

-- the first part of a day: a new drive is formatted with what the script sets up; of a drive that
-- stands nothing is asked yet
abbrev pub first_requests : Start → SetupValue → List RequestValue
first_requests start.Format g = format_asked g g.house ∷ []
first_requests start.Attach g = []

-- the day's requests: the drive is attached, and then the commands ask in their order
abbrev pub requests_of : SetupValue → List NumberedValue → List RequestValue
requests_of g cs = PlainRequest AttachCall ∷ flat_map (λ c. asks (planned g c.asked)) cs

-- the reply that a line is to have, by its plan; and that a command's line is to have
abbrev pub expected_by : ℕ → Result RequestValue Said → Expected
expected_by line p = record { source = Line line; said = said_at_once p }

abbrev pub expected_of : SetupValue → NumberedValue → Expected
expected_of g c = expected_by c.line (planned g c.asked)

-- the reply to the first part, if there is one
abbrev pub first_expected : Start → List Expected
first_expected start.Format = record { source = Format; said = None } ∷ []
first_expected start.Attach = []

-- the replies that a script is to have: to the format of a new drive, to the attach, and to each
-- command
abbrev pub all_expected : Start → SetupValue → List NumberedValue → List Expected
all_expected s g cs =
    first_expected s ++ (record { source = Attach; said = None } ∷ map (expected_of g) cs)
