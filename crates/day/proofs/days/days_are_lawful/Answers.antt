use Rattle.books.specs.Meaning.{Meaning}
use Rattle.std.specs.Prelude.{ℕ, List}
use Rattle.histories.specs.Events.{Event}
use Rattle.histories.specs.Law.{Law}
use Rattle.day.specs.Days.{Days, no_day, day_after, days_history}
use Rattle.day.proofs.days.days_are_lawful.Goals as goal

-- the law of the last day, whatever led to it
lawful : (m : Meaning) (es : List Event) (bs : List (List ℕ)) (days : Days m es bs) → Law m (days_history days)
lawful m _ _ no_day = tt
lawful m _ _ (day_after {es} days k) = k.law es (days_history days)

pub returns : goal.returns
returns c = record { holds = lawful }
