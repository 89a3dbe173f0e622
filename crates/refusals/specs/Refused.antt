-- A refusal as an answer, and tests one after another.
use Rattle.std.specs.Prelude.{ℕ, Ok, Err, Result}
use Rattle.refusals.specs.declared.reason.Reason.{Reason}
use Rattle.refusals.specs.declared.reason.Reason.TheVariants.{PowerLost}
use Rattle.refusals.specs.declared.places.PowerPlace.{PowerPlace}
use Rattle.refusals.specs.declared.refusal.Refusal.{Refusal}
use Rattle.refusals.specs.Places.{power_place_number}

-- power was lost, at a place
abbrev pub lost_at : PowerPlace → Refusal
lost_at place = record { reason = PowerLost; place = power_place_number place }

-- refused for a reason, at a place
abbrev pub refused : {X : Type 0} → Reason → ℕ → Result X Refusal
refused why place = Err (record { reason = why; place = place })

-- a `do` of answers: what comes next where nothing was refused; a refusal ends it
infixl 10 ◌>>=◌
abbrev pub ◌>>=◌ : {X Y : Type 0} → Result X Refusal → (X → Result Y Refusal) → Result Y Refusal
(Ok x) >>= next = next x
(Err e) >>= next = Err e

infixl 10 ◌>>◌
abbrev pub ◌>>◌ : {X Y : Type 0} → Result X Refusal → Result Y Refusal → Result Y Refusal
(Ok x) >> next = next
(Err e) >> next = Err e
