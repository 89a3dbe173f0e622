-- Which numbers are a procedure's: those for which the ledger has a word.
use Rattle.std.specs.Prelude.{◌≡◌, ℕ, true, false, Result, MatchResult}
use Rattle.refusals.specs.declared.places.StepPlace.{StepPlace}
use Rattle.refusals.specs.declared.places.StepPlace.TheVariants.{Items}
use Rattle.books.specs.Meaning.{has_procedure}
use Rattle.ledger.specs.Ledger.{ledger}
use Rattle.ledger.specs.Procedures.{procedure_number}
use Rattle.ledger.specs.declared.procedure.Procedure.{Procedure}

-- the procedure of a number; any other number is refused as step refuses it
abbrev pub ProcedureNumbered : ℕ → Result Procedure StepPlace → Type 0
ProcedureNumbered n r =
    MatchResult r
    (λ p. (procedure_number p ≡ n) × (has_procedure ledger n ≡ true))
    (λ e. (e ≡ Items) × (has_procedure ledger n ≡ false))
