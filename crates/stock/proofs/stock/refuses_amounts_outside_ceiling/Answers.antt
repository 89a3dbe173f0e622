use Rattle.stock.specs.StepTestsInOrder.{stock_amounts}
use Rattle.stock.proofs.stock.refuses_amounts_outside_ceiling.Goals as goal

pub returns : goal.returns
returns c = record { holds = stock_amounts }
