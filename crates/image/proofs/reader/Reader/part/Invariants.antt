use Rattle.std.proofs.Common.{◌≡◌, ℕ, ◌+◌, ◌<◌, [], length, get_or}
use Rattle.journals.specs.JournalState.{home_of}
use Rattle.image.specs.Home.{block_at}
use Rattle.image.proofs.reader.Reader.part.Given as goal

-- the blocks so far were read
abbrev pub invariant-loop-i : goal.invariant-loop-i
invariant-loop-i g l =
    (length l.found ≡ 8) × ((k : ℕ) → k < l.i → get_or l.found k [] ≡ block_at (home_of l.self) (l.first + k))
