use Rattle.journals.specs.JournalState.{size}
use Rattle.image.specs.Layout.{room}
use Rattle.monitor.proofs.TestsPassed.{passes, record_found_is}
use Rattle.monitor.proofs.monitor.Monitor.record.Goals as goal

pub returns : goal.returns
returns g c =
    let d = c.in_ok-reader.reader in
    let is_open = c.in_ok-reader.ensures.open in
    let counted = c.in_ok-check_counted.ensures in
    record {
      answer =
          record_found_is c.args.self.now d is_open c.args.number c.at-none.result
          c.at-none.ensures.names_reason c.at-none.ensures.names_place c.head.result
          (room (size d)) c.record.result c.ok_or.result c.head.ensures.value counted.value
          (counted.within passes) is_open.steady.found_room c.record.ensures.value
          c.ok_or.ensures.value;
    }
