use Rattle.std.proofs.Common.{arith}
use Rattle.monitor.proofs.TestsPassed.{passes, exit_is, enter_shut, enter_foreign, enter_unknown}
use Rattle.monitor.proofs.TestsPassed.{enter_refused, enter_made}
use Rattle.monitor.proofs.monitor.Monitor.enter.Goals as goal

-- a test refused it
pub returns-in_err-reader : goal.returns-in_err-reader
returns-in_err-reader g c =
    let a = c.args in
    let e = c.in_err-reader.field-0.0 in
    let r = c.from_residual.result in
    let is = exit_is r e c.from_residual.ensures.1 in
    record {
      answer =
          enter_shut g.B.Book.meaning a.self.now a.user a.word.now a.note e r
          c.in_err-reader.ensures.refused is;
    }

pub returns-in_err-check_kind : goal.returns-in_err-check_kind
returns-in_err-check_kind g c =
    let a = c.args in
    let e = c.in_err-check_kind.field-0.0 in
    let r = c.from_residual-in_err-check_kind.result in
    let is = exit_is r e c.from_residual-in_err-check_kind.ensures.1 in
    record {
      answer =
          enter_foreign g.B.Book.meaning a.self.now c.in_ok-reader.reader
          c.in_ok-reader.ensures.open a.user a.word.now a.note c.numbers-numbers.result
          c.numbers-numbers.ensures.value e r c.in_err-check_kind.ensures.value is;
    }

pub returns-in_err-identify : goal.returns-in_err-identify
returns-in_err-identify g c =
    let a = c.args in
    let e = c.in_err-identify.field-0.0 in
    let r = c.from_residual-in_err-identify.result in
    let is = exit_is r e c.from_residual-in_err-identify.ensures.1 in
    record {
      answer =
          enter_unknown g.B.Book.meaning a.self.now c.in_ok-reader.reader
          c.in_ok-reader.ensures.open a.user a.word.now a.note c.numbers-numbers.result
          c.numbers-numbers.ensures.value c.in_ok-check_kind.ensures.value e r
          c.in_err-identify.ensures.value is;
    }

pub returns-in_err-check_enterer : goal.returns-in_err-check_enterer
returns-in_err-check_enterer g c =
    let a = c.args in
    let e = c.in_err-check_enterer.field-0.0 in
    let r = c.from_residual-in_err-check_enterer.result in
    let is = exit_is r e c.from_residual-in_err-check_enterer.ensures.1 in
    record {
      answer =
          enter_refused g.B.Book.meaning a.self.now c.in_ok-reader.reader
          c.in_ok-reader.ensures.open a.user a.word.now a.note c.numbers-numbers.result
          c.numbers-numbers.ensures.value c.in_ok-check_kind.ensures.value
          c.in_ok-identify.ensures.value e r c.in_err-check_enterer.ensures.value is;
    }

-- a user is one of 16
pub overflow_cast-user : goal.overflow_cast-user
overflow_cast-user g c = record { fits = omega (arith, c.in_ok-identify.ensures.within passes) }

-- the slip is made
pub returns : goal.returns
returns g c =
    let a = c.args in
    record {
      answer =
          enter_made g.B.Book.meaning a.self.now c.in_ok-reader.reader c.in_ok-reader.ensures.open
          a.user a.word.now a.note c.numbers-numbers.result c.numbers-numbers.ensures.value
          c.in_ok-check_kind.ensures.value c.in_ok-identify.ensures.value c.of.result
          c.head.result c.in_ok-check_enterer.ensures.value c.head.ensures.value
          c.of.ensures.value;
    }
