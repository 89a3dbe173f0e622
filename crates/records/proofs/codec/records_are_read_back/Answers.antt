use Rattle.records.specs.Laws.{parsed_back}
use Rattle.records.proofs.codec.records_are_read_back.Goals as goal

pub returns : goal.returns
returns c = record { holds = parsed_back }
