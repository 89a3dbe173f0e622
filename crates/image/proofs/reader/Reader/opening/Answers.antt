use Rattle.std.proofs.Common.{ap, ◌∙◌}
use Rattle.std.specs.List.{flat_map}
use Rattle.layout.specs.Codes.{codes_of}
use Rattle.image.proofs.reader.Reader.opening.Goals as goal

pub returns : goal.returns
returns g c = record { value = c.codes_in.ensures.value ∙ ap (flat_map codes_of) c.part.ensures.value }
