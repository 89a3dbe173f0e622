-- The places that come from a closed list, by the number that people see.
use Rattle.std.specs.Prelude.{ℕ}
use Rattle.refusals.specs.declared.places.StepPlace.{StepPlace}
use Rattle.refusals.specs.declared.places.StepPlace.TheVariants as step
use Rattle.refusals.specs.declared.places.PowerPlace.{PowerPlace}
use Rattle.refusals.specs.declared.places.PowerPlace.TheVariants as power
use Rattle.refusals.specs.declared.places.FormatPlace.{FormatPlace}
use Rattle.refusals.specs.declared.places.FormatPlace.TheVariants as format
use Rattle.refusals.specs.declared.places.RowPlace.{RowPlace}
use Rattle.refusals.specs.declared.places.RowPlace.TheVariants as row

abbrev pub step_place_number : StepPlace → ℕ
step_place_number step.Items = 1
step_place_number step.Amount = 2
step_place_number step.Values = 3

-- 1 to 3 are the places of a change, which the journal numbers
abbrev pub power_place_number : PowerPlace → ℕ
power_place_number power.Dark = 0
power_place_number power.Starting = 4

abbrev pub format_place_number : FormatPlace → ℕ
format_place_number format.House = 1
format_place_number format.Roll = 2
format_place_number format.Opening = 3

abbrev pub row_place_number : RowPlace → ℕ
row_place_number row.Row = 1
row_place_number row.User = 2
row_place_number row.Procedure = 3
row_place_number row.Role = 4
row_place_number row.Mask = 5
