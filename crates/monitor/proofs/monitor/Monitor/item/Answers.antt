use Rattle.monitor.proofs.TestsPassed.{item_found_is}
use Rattle.monitor.proofs.monitor.Monitor.item.Goals as goal

pub returns : goal.returns
returns g c =
    record {
      answer =
          item_found_is c.args.self.now c.in_ok-reader.reader c.in_ok-reader.ensures.open
          c.args.item c.at-none.result c.at-none.ensures.names_reason
          c.at-none.ensures.names_place c.code.result c.ok_or.result c.code.ensures.value
          c.ok_or.ensures.value;
    }
