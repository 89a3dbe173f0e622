use Rattle.std.proofs.Common.{vec_len}
use Rattle.desk.proofs.tray.withdraw_all.Given as goal

abbrev pub decreases-loop-slip : goal.decreases-loop-slip
decreases-loop-slip l = vec_len l.tray
