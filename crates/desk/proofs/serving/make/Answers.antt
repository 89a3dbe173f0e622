use Rattle.desk.proofs.ServesAsDefined.{call_made}
use Rattle.desk.proofs.serving.make.Goals as goal

-- the call happened, and its slip was kept on the tray
pub returns-clause-makes : goal.returns-clause-makes
returns-clause-makes g c = call_made g.B.Book.meaning _ _ _ _ _ _ _ _ c.make_call.ensures.happens c.insert_slip.ensures.tells c.insert_slip.ensures.slip
