use Rattle.std.proofs.Common.{◌≡◌, true, sym, rules}
use Rattle.ledger.specs.Ledger.{ledger_takes}
use Rattle.ledger.proofs.ledger.LedgerBook.step.Goals as goal

pub returns-then-not-contains : goal.returns-then-not-contains
returns-then-not-contains c = let takes : ledger_takes c.args.draft ≡ true = sym c.if-not-takes.ensures.value in search rules

pub returns-in_err-more : goal.returns-in_err-more
returns-in_err-more c = let takes : ledger_takes c.args.draft ≡ true = sym c.if-not-takes.ensures.value in search rules

pub returns-in_err-less : goal.returns-in_err-less
returns-in_err-less c = let takes : ledger_takes c.args.draft ≡ true = sym c.if-not-takes.ensures.value in search rules

pub returns : goal.returns
returns c = let takes : ledger_takes c.args.draft ≡ true = sym c.if-not-takes.ensures.value in search rules
