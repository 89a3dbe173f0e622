use Rattle.desk.proofs.ServesAsDefined.{extended}
use Rattle.desk.proofs.making.make_call.Goals as goal

-- the call extends whatever history led to the monitor
pub returns-clause-law : goal.returns-clause-law
returns-clause-law g c = extended c.every_history_is_lawful.ensures.holds g.B.Book.meaning g.met.B.Book.step_tests g.met.B.Book.step_gives_codes _ _ _ c.perform.ensures.happens
