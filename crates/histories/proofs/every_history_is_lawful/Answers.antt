use Rattle.histories.proofs.LawHolds.{law_holds}
use Rattle.histories.proofs.every_history_is_lawful.Goals as goal

pub returns : goal.returns
returns c = record { holds = law_holds }
