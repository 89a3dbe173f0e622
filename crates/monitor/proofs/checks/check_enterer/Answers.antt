use Rattle.journals.specs.JournalState.{home_of}
use Rattle.monitor.proofs.TestsPassed.{entitled, not_entitled}
use Rattle.monitor.proofs.checks.check_enterer.Goals as goal

pub returns-in-Some : goal.returns-in-Some
returns-in-Some g c =
    let a = c.args in
    record {
      value =
          not_entitled (home_of a.reader.now) a.user a.note c.rows.result c.from.result
          c.from-a.result c.from-b.result c.rows.ensures.value c.from.ensures c.from-a.ensures
          c.from-b.ensures c.in-Some.item c.at.result c.in-Some.ensures.value
          c.at.ensures.names_reason c.at.ensures.names_place;
    }

pub returns-in-None : goal.returns-in-None
returns-in-None g c =
    let a = c.args in
    record {
      value =
          entitled (home_of a.reader.now) a.user a.note c.rows.result c.from.result
          c.from-a.result c.from-b.result c.rows.ensures.value c.from.ensures c.from-a.ensures
          c.from-b.ensures c.in-None.ensures.value;
    }
