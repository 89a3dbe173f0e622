-- What a counting drive is seen as, and what it counts.
use Rattle.std.specs.Prelude.{ℕ, ◌+◌, min}
use Rattle.drives.specs.Disk.{Disk}
use Rattle.counting.specs.declared.counts.Counts.{Counts}

-- what the drive below means, and the calls that were handed on to it
pub record CountingState : Type 0 where
  pub disk : Disk
  pub counts : Counts

-- before the first call
abbrev pub no_counts : Counts
no_counts = record { writes = 0; flushes = 0; powers = 0 }

-- one call more; a count stays at the largest number of 64 bits
abbrev pub one_more : ℕ → ℕ
one_more n = min (n + 1) 18446744073709551615

abbrev pub write_counted : Counts → Counts
write_counted c = record c { writes = one_more c.writes }

abbrev pub flush_counted : Counts → Counts
flush_counted c = record c { flushes = one_more c.flushes }

abbrev pub power_counted : Counts → Counts
power_counted c = record c { powers = one_more c.powers }
