-- The trial drive's calls, as functions of its state.
use Rattle.std.specs.Prelude.{ℕ, ◌/◌, Bool, true, false, not, List, length, take, Some, None, Ok, Err, Option, Result, ◌==◌, nat_lt, slice_index_or, if◌then◌else◌}
use Rattle.drives.specs.Disk.{Disk}
use Rattle.drives.specs.declared.drive_fault.DriveFault.{DriveFault}
use Rattle.drives.specs.declared.drive_fault.DriveFault.TheVariants.{Off, NoSuchBlock, BadBuffer, PowerLost}
use Rattle.trial.specs.Bytes.{blocks_of, with_block, disk_of}
use Rattle.trial.specs.Schedule.{turn, fuse_left, next_fuse, cuts_left}
use Rattle.trial.specs.declared.fuse.Fuse.{Fuse}
use Rattle.trial.specs.declared.fuse.Fuse.TheVariants.{Never}
use Rattle.trial.specs.declared.turn.Turn.{Turn}
use Rattle.trial.specs.declared.turn.Turn.TheVariants.{Done, Lost}

-- the handed bytes, power, the cut numbers that no power call has taken yet, and the fuse, which
-- says when power fails next
pub record TrialState : Type 0 where
  pub bytes : List ℕ
  pub on : Bool
  pub cuts : List ℕ
  pub fuse : Fuse

-- the drive that a state means
abbrev pub disk : TrialState → Disk
disk s = disk_of s.on s.bytes

-- a new trial drive is off, and takes the first 16 of the cut numbers
abbrev pub fresh : List ℕ → List ℕ → TrialState
fresh bytes cuts = record { bytes = bytes; on = false; cuts = take 16 cuts; fuse = Never }

-- what a call answers, and the state that it leaves
pub record TrialOutcome : Type 0 where
  pub answer : Result (Unit {0}) DriveFault
  pub state : TrialState

-- what a refused call answers; it leaves the state as it was
abbrev pub refusal : DriveFault → TrialState → TrialOutcome
refusal e s = record { answer = Err e; state = s }

-- the tests of read and write, in their order: power, block number, buffer
abbrev pub fault : TrialState → ℕ → ℕ → Option DriveFault
fault s b n =
    if not s.on then Some Off
    else if not (nat_lt b (length s.bytes / 64)) then Some NoSuchBlock
    else if not (n == 64) then Some BadBuffer
    else None

-- what a read answers, and leaves in the buffer
abbrev pub read_answer : Option DriveFault → Result (Unit {0}) DriveFault
read_answer None = Ok tt
read_answer (Some e) = Err e

abbrev pub checked_read_buffer : Option DriveFault → TrialState → ℕ → List ℕ → List ℕ
checked_read_buffer None s b buffer = slice_index_or (blocks_of s.bytes) b buffer
checked_read_buffer (Some e) s b buffer = buffer

abbrev pub read_buffer : TrialState → ℕ → List ℕ → List ℕ
read_buffer s b buffer = checked_read_buffer (fault s b (length buffer)) s b buffer

-- a write that is done or loses power; one that loses power leaves the new content exactly if it
-- lands
abbrev pub write_by : Turn → TrialState → ℕ → List ℕ → TrialOutcome
write_by Done s b x = record {
  answer = Ok tt;
  state = record s { bytes = with_block s.bytes b x; on = true; fuse = fuse_left s.fuse };
}
write_by (Lost true) s b x = record {
  answer = Err PowerLost;
  state = record s { bytes = with_block s.bytes b x; on = false; fuse = fuse_left s.fuse };
}
write_by (Lost false) s b x = record {
  answer = Err PowerLost;
  state = record s { on = false; fuse = fuse_left s.fuse };
}

abbrev pub checked_write : Option DriveFault → TrialState → ℕ → List ℕ → TrialOutcome
checked_write None s b x = write_by (turn s.fuse) s b x
checked_write (Some e) s b x = refusal e s

abbrev pub write : TrialState → ℕ → List ℕ → TrialOutcome
write s b x = checked_write (fault s b (length x)) s b x

-- a flush that is done or loses power: either way every block holds what it held
abbrev pub flush_by : Turn → TrialState → TrialOutcome
flush_by Done s = record {
  answer = Ok tt;
  state = record s { on = true; fuse = fuse_left s.fuse };
}
flush_by (Lost lands) s = record {
  answer = Err PowerLost;
  state = record s { on = false; fuse = fuse_left s.fuse };
}

abbrev pub flush : TrialState → TrialOutcome
flush s = if not s.on then refusal Off s else flush_by (turn s.fuse) s

-- a power call is always done
abbrev pub power : TrialState → TrialState
power s = record s { on = true; cuts = cuts_left s.cuts; fuse = next_fuse s.cuts }
