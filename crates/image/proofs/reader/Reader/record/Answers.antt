use Rattle.std.proofs.Common.{ap, arith}
use Rattle.journals.specs.JournalState.{size}
use Rattle.image.specs.Laws.{size_low}
use Rattle.image.proofs.reader.Reader.record.Goals as goal

-- where there is room for the record, the drive has its block
pub block-requires-clause-within : goal.block-requires-clause-within
block-requires-clause-within g c =
    omega (arith, size_low (size c.self.inside.journal.now) c.self.invariant.fits, ap size c.self.view_is)
