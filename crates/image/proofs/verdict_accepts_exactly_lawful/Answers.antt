use Rattle.image.specs.Laws.Accepting.{accepts_exactly_lawful}
use Rattle.image.proofs.verdict_accepts_exactly_lawful.Goals as goal

pub returns : goal.returns
returns c = record { holds = accepts_exactly_lawful }
