use Rattle.std.proofs.Common.{refl, ap}
use Rattle.calls.specs.PlainValue.{plain_value, CertifyCall, StrikeCall}
use Rattle.histories.specs.declared.answer.Answer.TheVariants.{Count}
use Rattle.desk.proofs.ServesAsDefined.{as_called}
use Rattle.desk.proofs.making.make_plain.Goals as goal

pub returns-in-Certify : goal.returns-in-Certify
returns-in-Certify g c = record {
  happens = as_called g.B.Book.meaning c.args.monitor.now c.certify.new.self _ (CertifyCall c.in-Certify.word.now c.in-Certify.draft) (Count c.certify.result) (ap plain_value c.in-Certify.is) (c.certify.result, refl, c.certify.ensures.certifies);
}

pub returns-in-Strike : goal.returns-in-Strike
returns-in-Strike g c = record {
  happens = as_called g.B.Book.meaning c.args.monitor.now c.strike.new.self _ (StrikeCall c.in-Strike.word.now c.in-Strike.row) (Count c.strike.result) (ap plain_value c.in-Strike.is) (c.strike.result, refl, c.strike.ensures.strikes);
}
