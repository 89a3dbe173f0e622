use Rattle.std.proofs.Common.{rules}
use Rattle.journals.proofs.WriteOneMore.{stores}
use Rattle.journals.proofs.steps.stage.Goals as goal

pub returns : goal.returns
returns g c = record { stages = search (rules, stores) }
