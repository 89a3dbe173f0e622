use Rattle.layout.specs.Laws.{read_back}
use Rattle.layout.proofs.blocks_are_read_back.Goals as goal

pub returns : goal.returns
returns c = record { holds = read_back }
