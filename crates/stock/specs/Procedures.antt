-- The stock book's procedures by their numbers.
use Rattle.std.specs.Prelude.{ℕ, Bool, ◌||◌, ◌==◌}
use Rattle.stock.specs.declared.procedure.Procedure.{Procedure}
use Rattle.stock.specs.declared.procedure.Procedure.TheVariants.{Build, Take, Give}

abbrev pub procedure_number : Procedure → ℕ
procedure_number Build = 1
procedure_number Take = 2
procedure_number Give = 3

-- a number is a procedure's
abbrev pub is_procedure : ℕ → Bool
is_procedure n = n == procedure_number Build || (n == procedure_number Take || n == procedure_number Give)
