-- Why the reading of a script ended before its end, with texts and words as lists of bytes.
use Rattle.std.specs.Prelude.{ℕ, List}
use Rattle.script.specs.declared.bad_line.BadLine.{BadLine}
use Rattle.script.specs.declared.fault.Fault.{Fault}
use Rattle.script.specs.declared.fault.Fault.TheVariants as fault
use Rattle.script.specs.declared.misfit.Misfit.{Misfit}
use Rattle.script.specs.declared.misfit.Misfit.TheVariants as misfit

-- what does not fit in a bad line
pub data MisfitValue : Type 0 where
  -- a byte is no text
  NoTextMisfit : MisfitValue
  -- the first word with which no form goes on
  WordMisfit : List ℕ → MisfitValue
  -- a word is missing at the end
  TooShortMisfit : MisfitValue

-- a line that no form fits: its number, from 1, its bytes, and what does not fit
pub record BadLineValue : Type 0 where
  pub number : ℕ
  pub text : List ℕ
  pub misfit : MisfitValue

-- why a reading ended
pub data FaultValue : Type 0 where
  -- the script is too long
  TooLongFault : FaultValue
  -- no form fits a line
  BadLineFault : BadLineValue → FaultValue

-- where it is: 0 for a script that is too long, else the number of the bad line
abbrev pub place_of : FaultValue → ℕ
place_of TooLongFault = 0
place_of (BadLineFault b) = b.number

-- what did not fit, as it was read
abbrev pub misfit_value : Misfit → MisfitValue
misfit_value misfit.NoText = NoTextMisfit
misfit_value (misfit.Word w) = WordMisfit w.now
misfit_value misfit.TooShort = TooShortMisfit

-- a bad line as it was read
abbrev pub bad_line_value : BadLine → BadLineValue
bad_line_value b =
    record { number = b.number; text = b.text.now; misfit = misfit_value b.misfit }

-- a fault as it was read
abbrev pub fault_value : Fault → FaultValue
fault_value fault.TooLong = TooLongFault
fault_value (fault.BadLine b) = BadLineFault (bad_line_value b)
