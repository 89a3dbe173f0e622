use Rattle.ledger.specs.StepTestsInOrder.{ledger_amounts}
use Rattle.ledger.proofs.ledger.refuses_amounts_outside_ceiling.Goals as goal

pub returns : goal.returns
returns c = record { holds = ledger_amounts }
