-- What the crates above prove with.
use Rattle.std.specs.Prelude.{ℕ, ◌<◌, ◌≤◌, List, Decides}
use Rattle.changes.specs.declared.home.Home.{Home}
use Rattle.changes.specs.Homes.{numbers, last, IsChange}
use Rattle.changes.specs.CommitBlock.{lawful_commit, Rises, LawfulCommit}
use Rattle.changes.specs.RoundTrip.{ReadsBack}
use Rattle.changes.specs.Laws.Changes as changes
use Rattle.changes.specs.Laws.Testing as testing
pub mod Encoding
pub mod Changes
pub mod Testing

-- the test of a commit block decides whether it is lawful
pub lawful_decides : (size : ℕ) (c : List ℕ) → Decides (lawful_commit size c) (LawfulCommit size c)
lawful_decides = testing.lawful_decides

-- a change on a drive that has its blocks
module _ (homes : List Home) (change : IsChange homes) (size : ℕ) (within : last homes < size) where
  -- its numbers rise there
  pub change_rises : Rises size (numbers homes)
  change_rises = changes.change_rises homes change size within

  -- its commit block is lawful there, and names its blocks
  pub change_reads_back : ReadsBack size (numbers homes)
  change_reads_back = changes.change_reads_back homes change size within

  -- and there are a commit block and slots
  pub change_wide : 7 ≤ size
  change_wide = changes.change_wide homes change size within
