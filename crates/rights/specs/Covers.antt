-- Who may do what: the rows of the rights table.
use Rattle.std.specs.Prelude.{◌≡◌, ℕ, ◌/◌, ◌%◌, ◌^◌, ◌<◌, Bool, true, not, ◌&&◌, ◌||◌, List, length, Some, None, Option, ◌==◌, if◌then◌else◌, slice_index_or}
use Rattle.std.specs.List.{list_any}
use Rattle.rights.specs.declared.row.Row.{Row}
use Rattle.rights.specs.declared.row_question.RowQuestion.{RowQuestion}
use Rattle.rights.specs.declared.role.Role.{Role}
use Rattle.rights.specs.declared.role.Role.TheVariants.{Enter, Countersign}

-- the number of a role
abbrev pub role_number : Role → ℕ
role_number Enter = 1
role_number Countersign = 2

-- a number is a role's
abbrev pub is_role : ℕ → Bool
is_role n = n == role_number Enter || n == role_number Countersign

-- the bit of value 2 ^ i stands for item i
abbrev pub has_item : ℕ → ℕ → Bool
has_item mask i = mask / 2 ^ i % 2 == 1

-- a row covers an item for a user, procedure and role if it names those three and has the item's
-- bit
abbrev pub covers : Row → RowQuestion → ℕ → Bool
covers w q i =
    (w.user == q.user && (w.procedure == q.procedure && w.role == role_number q.role))
    && has_item w.mask i

-- a free row is all zero
abbrev pub free : Row
free = record { user = 0; procedure = 0; role = 0; mask = 0 }

abbrev pub is_free : Row → Bool
is_free w = (w.user == 0 && w.procedure == 0) && (w.role == 0 && w.mask == 0)

-- some row covers the item
abbrev pub covered : List Row → RowQuestion → ℕ → Bool
covered rows q i = list_any (λ w. covers w q i) rows

-- row k is there, and covers the item
abbrev pub CoversAt : List Row → RowQuestion → ℕ → ℕ → Type 0
CoversAt rows q i k = (k < length rows) × (covers (slice_index_or rows k free) q i ≡ true)

-- the first of two items that no row covers; none if the user is entitled to both
abbrev pub uncovered : List Row → RowQuestion → ℕ → ℕ → Option ℕ
uncovered rows q a b =
    if not (covered rows q a) then Some a
    else if not (covered rows q b) then Some b
    else None
