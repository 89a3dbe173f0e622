use Rattle.std.proofs.Common.{rules}
use Rattle.records.specs.declared.record.Record.TheVariants.{Certification}
use Rattle.applying.specs.BookState.{state_of}
use Rattle.monitor.proofs.RecordApplied.{certify_made, certify_refused}
use Rattle.monitor.proofs.TestsPassed.{exit_is}
use Rattle.monitor.proofs.monitor.Monitor.certify.Goals as goal

-- it was refused
pub returns-in_err-state : goal.returns-in_err-state
returns-in_err-state g c =
    let s = c.args.self.now in
    let e = c.in_err-state.field-0.0 in
    let r = c.from_residual-in_err-state.result in
    let is = exit_is r e c.from_residual-in_err-state.ensures.1 in
    record {
      certifies = record {
        fits = search rules;
        changes =
            certify_refused s c.in_ok-reader.reader c.in_ok-reader.ensures.open c.head-head.result
            c.head-head.ensures.value r s g.B.Book.meaning c.args.word.now c.args.draft
            c.in_ok-identify.ensures.value e c.in_err-state.ensures.gives is;
      };
    }

-- it was applied
pub returns : goal.returns
returns g c =
    let s = c.args.self.now in
    let r = c.make_update.result in
    let t = c.make_update.new.self in
    let a = state_of c.in_ok-state.state in
    record {
      certifies = record {
        fits = search rules;
        changes =
            certify_made s c.in_ok-reader.reader c.in_ok-reader.ensures.open c.head-head.result
            c.head-head.ensures.value r t g.B.Book.meaning c.args.word.now c.args.draft
            c.in_ok-identify.ensures.value a c.in_ok-state.ensures.gives
            (Certification c.certification_of.result) c.certification_of.ensures.value
            c.make_update.ensures.makes;
      };
    }
