use Rattle.std.proofs.Common.{rules}
use Rattle.ledger.proofs.TwoDigits.{two_padded}
use Rattle.ledger.proofs.balance.BalanceDisplay.fmt.Goals as goal

pub returns-clause-writes : goal.returns-clause-writes
returns-clause-writes g c = search (rules, two_padded)
