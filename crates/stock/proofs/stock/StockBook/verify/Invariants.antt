use Rattle.std.proofs.Common.{◌≡◌, ◌*◌, ◌≤◌, true, take, drop, sum_by}
use Rattle.std.specs.List.{list_all}
use Rattle.stock.specs.Stock.{held, most, in_order}
use Rattle.stock.proofs.stock.StockBook.verify.Given as goal

abbrev pub invariant-loop-code : goal.invariant-loop-code
invariant-loop-code l =
    record {
      in_order : list_all in_order (take l.code-index (drop 1 l.codes)) ≡ true;
      held_summed : l.held ≡ sum_by held (take l.code-index (drop 1 l.codes));
      most_summed : l.most ≡ sum_by most (take l.code-index (drop 1 l.codes));
      held_bounded : l.held ≤ 10000 * l.code-index;
      most_bounded : l.most ≤ 10000 * l.code-index;
    }
