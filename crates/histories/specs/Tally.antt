-- The tally: what the books should hold, by the calls' arguments and answers alone.
use Rattle.std.specs.Prelude.{ℕ, ◌+◌, List, [], ◌∷◌, ◌++◌, length, Some, None, Ok, Err, Option, Result, ◌==◌, if◌then◌else◌}
use Rattle.std.specs.Option.{option_map}
use Rattle.refusals.specs.declared.reason.Reason.TheVariants.{PowerLost}
use Rattle.refusals.specs.declared.refusal.Refusal.{Refusal}
use Rattle.refusals.specs.Table.{reason_number}
use Rattle.books.specs.Meaning.{Meaning}
use Rattle.journals.specs.declared.cut_place.CutPlace.TheVariants.{Committing, Installing}
use Rattle.journals.specs.Reported.{place_number}
use Rattle.records.specs.declared.record.Record.{Record}
use Rattle.records.specs.declared.record.Record.TheVariants.{Strike}
use Rattle.applying.specs.BookState.{BookState, opened, effect}
use Rattle.monitor.specs.Calls.{posting_record, certification_record}
use Rattle.calls.specs.PlainValue.{FormatCall, AttachCall, CertifyCall, StrikeCall}
use Rattle.histories.specs.declared.answer.Answer.{Answer}
use Rattle.histories.specs.declared.answer.Answer.TheVariants as answer
use Rattle.histories.specs.Events.{CallValue, CountersignCall, PlainCall, Event}

-- books as they should be: the opening; what stands, the items, the rows and how many records; and
-- the records in order, one for each change that stands
pub record Books : Type 0 where
  pub opening : List ℕ
  pub state : BookState
  pub records : List Record

-- at format: the opening, 32 free rows and no records
abbrev pub began : List ℕ → Books
began opening = record { opening = opening; state = opened opening; records = [] }

-- the change that a call asks for, if it asks for one, by its record
abbrev pub change_asked : CallValue → Option Record
change_asked (CountersignCall user word slip) = Some (posting_record slip user)
change_asked (PlainCall (CertifyCall word draft)) = Some (certification_record draft)
change_asked (PlainCall (StrikeCall word row)) = Some (Strike row)
change_asked _ = None

-- a change that is made: its effect on what stands, and its record behind the others; nothing if
-- the step refuses
abbrev pub with_effect : Books → Record → Option BookState → Books
with_effect b x None = b
with_effect b x (Some s) = record { opening = b.opening; state = s; records = b.records ++ (x ∷ []) }

abbrev pub with_change : Meaning → Books → Record → Books
with_change m b x = with_effect b x (effect m b.state x)

-- the books, and the change, if there is one, of which power left open whether it stands
pub record Tally : Type 0 where
  pub books : Books
  pub doubt : Option Record

abbrev pub no_doubt : Books → Tally
no_doubt b = record { books = b; doubt = None }

abbrev pub in_doubt : Books → Record → Tally
in_doubt b x = record { books = b; doubt = Some x }

-- a change that lost power: at place 3 it is made at once, at place 2 it is in doubt, else it is
-- nothing
abbrev pub cut_at : Meaning → Tally → Record → ℕ → Tally
cut_at m t x place =
    if place == place_number Installing then record t { books = with_change m t.books x }
    else if place == place_number Committing then in_doubt t.books x
    else t

-- a change by its answer: acknowledged, it is made at once; refused, it is nothing, but for lost
-- power
abbrev pub by_answer : Meaning → Tally → Record → Result ℕ Refusal → Tally
by_answer m t x (Ok n) = record t { books = with_change m t.books x }
by_answer m t x (Err e) = if reason_number e.reason == reason_number PowerLost then cut_at m t x e.place else t

-- the change in doubt is made at the next accepted attach if that answers one record more than the
-- tally holds, and otherwise never
abbrev pub doubt_resolved : Meaning → Books → ℕ → Option Record → Tally
doubt_resolved m b n None = no_doubt b
doubt_resolved m b n (Some x) = if n == length b.records + 1 then no_doubt (with_change m b x) else no_doubt b

abbrev pub attached : Meaning → Tally → Result ℕ Refusal → Tally
attached m t (Ok n) = doubt_resolved m t.books n t.doubt
attached m t (Err e) = t

-- format, from whatever tally there was: accepted, it begins anew; cut, there is none; else as it
-- was
abbrev pub formatted : List ℕ → Result ℕ Refusal → Option Tally → Option Tally
formatted opening (Ok n) o = Some (no_doubt (began opening))
formatted opening (Err e) o = if reason_number e.reason == reason_number PowerLost then None else o

-- the tally after a call that asked for a change, by its answer; a call that asked for none alters
-- nothing
abbrev pub after_change : Meaning → Option Record → Result ℕ Refusal → Tally → Tally
after_change m None r t = t
after_change m (Some x) r t = by_answer m t x r

-- the tally after one event more: format begins it, attach settles what is in doubt, and all else
-- is a change or nothing
abbrev pub fed : Meaning → Option Tally → CallValue → Answer → Option Tally
fed m o (PlainCall (FormatCall house roll opening)) (answer.Count r) = formatted opening r o
fed m o (PlainCall AttachCall) (answer.Count r) = option_map (λ t. attached m t r) o
fed m o c (answer.Count r) = option_map (after_change m (change_asked c) r) o
fed m o _ _ = o

abbrev pub feed : Meaning → Option Tally → Event → Option Tally
feed m o e = fed m o e.call e.answer

-- the tally of all that happened, the latest event first: none before an accepted format, none
-- after one that was cut
abbrev pub tally : Meaning → List Event → Option Tally
tally m [] = None
tally m (e ∷ es) = feed m (tally m es) e
