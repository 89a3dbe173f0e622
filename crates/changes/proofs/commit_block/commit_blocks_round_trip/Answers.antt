use Rattle.changes.specs.Laws.Encoding.{reads_back, written_back}
use Rattle.changes.proofs.commit_block.commit_blocks_round_trip.Goals as goal

pub returns : goal.returns
returns c = record { holds = record { written = λ size ns f r. reads_back ns f size r; read = written_back } }
