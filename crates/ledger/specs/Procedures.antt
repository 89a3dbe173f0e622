-- The ledger's procedures by their numbers.
use Rattle.std.specs.Prelude.{ℕ}
use Rattle.ledger.specs.declared.procedure.Procedure.{Procedure}
use Rattle.ledger.specs.declared.procedure.Procedure.TheVariants.{Charge, Receipt, Shift}

abbrev pub procedure_number : Procedure → ℕ
procedure_number Charge = 1
procedure_number Receipt = 2
procedure_number Shift = 3
