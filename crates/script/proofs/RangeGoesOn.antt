-- A list of numbers that goes on after some of them, and how many pieces there can be.
use Rattle.std.proofs.Common.{ℕ, ◌+◌, ◌≤◌, Bool, List, ◌++◌, length, Option, Some, arith}
use Rattle.std.proofs.lemmas.List.Splits.{length-slice_split}
use Rattle.std.proofs.lemmas.List.Sums.{count_by-le-length}
use Rattle.std.specs.List.{slice_split}
use Rattle.script.specs.OptionDo.{◌>>=◌}

-- numbers with some before them
abbrev pub after : List ℕ → Option (List ℕ) → Option (List ℕ)
after ns more = do
  ms ← more
  Some (ns ++ ms)

-- no more pieces than bytes, and one
pub pieces_few : (cut : ℕ → Bool) (bs : List ℕ) → length (slice_split cut bs) ≤ length bs + 1
pieces_few cut bs = rw length-slice_split (omega (arith, count_by-le-length cut bs))
