-- What a slip is seen as.
use Rattle.std.specs.Prelude.{ℕ, Bool, false, Ok, Err, Result}
use Rattle.refusals.specs.declared.refusal.Refusal.{Refusal}
use Rattle.records.specs.declared.record.Posting.{Posting}
use Rattle.applying.specs.Applied.{posting_of}
use Rattle.monitor.specs.declared.slip_numbers.SlipNumbers.{SlipNumbers}

-- its numbers, and whether it is spent: only a spent slip may be let fall
pub record SlipValue : Type 0 where
  pub entered : SlipNumbers
  pub spent : Bool

abbrev pub unspent : SlipNumbers → SlipValue
unspent numbers = record { entered = numbers; spent = false }

-- what is posted when a user countersigns a slip with these numbers
abbrev pub posting_by : SlipNumbers → ℕ → Posting
posting_by slip user = posting_of slip.numbers slip.enterer user

-- an answer that hands out a slip, by what it is to hold: one that is not spent
abbrev pub handed_out : Result SlipNumbers Refusal → Result SlipValue Refusal
handed_out (Ok numbers) = Ok (unspent numbers)
handed_out (Err e) = Err e
