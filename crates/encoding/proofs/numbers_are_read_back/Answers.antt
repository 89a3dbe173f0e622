use Rattle.encoding.specs.Laws.{read_back}
use Rattle.encoding.proofs.numbers_are_read_back.Goals as goal

pub returns : goal.returns
returns c = record { holds = read_back }
