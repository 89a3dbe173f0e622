use Rattle.std.proofs.Common.{◌≡◌, ◌*◌, true, take, map, pos, neg_ℤ, ◌≤ℤ◌}
use Rattle.std.specs.List.{list_all}
use Rattle.ledger.specs.Ledger.{balance, within, total}
use Rattle.ledger.proofs.ledger.LedgerBook.verify.Given as goal

abbrev pub invariant-loop-code : goal.invariant-loop-code
invariant-loop-code l =
    record {
      all_within : list_all within (take l.code-index (map balance l.codes)) ≡ true;
      summed : l.sum ≡ total (take l.code-index (map balance l.codes));
      low : neg_ℤ (pos (1000000000000 * l.code-index)) ≤ℤ l.sum;
      high : l.sum ≤ℤ pos (1000000000000 * l.code-index);
    }
