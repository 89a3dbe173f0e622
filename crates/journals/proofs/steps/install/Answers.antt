use Rattle.std.proofs.Common.{rules}
use Rattle.journals.proofs.WriteOneMore.{installs}
use Rattle.journals.proofs.steps.install.Goals as goal

pub returns : goal.returns
returns g c = record { installs = search (rules, installs) }
