use Rattle.records.specs.Laws.{one_form}
use Rattle.records.proofs.codec.records_have_one_form.Goals as goal

pub returns : goal.returns
returns c = record { holds = one_form }
