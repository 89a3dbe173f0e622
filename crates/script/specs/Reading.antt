-- A whole script: what it sets up, and its commands with their line numbers, up to the first bad
-- line.
use Rattle.std.specs.Prelude.{ℕ, suc, not, List, [], ◌∷◌, ◌++◌, map, length, Some, None, vec_items, Option, nat_le, if◌then◌else◌}
use Rattle.std.specs.Option.{option_map, option_or}
use Rattle.lexer.specs.Pieces.{lines}
use Rattle.registry.specs.declared.book_name.BookName.{BookName}
use Rattle.script.specs.declared.setup.Setup.{Setup}
use Rattle.script.specs.declared.numbered.Numbered.{Numbered}
use Rattle.script.specs.declared.script.Script.{Script}
use Rattle.script.specs.LineValue.{CommandValue, LineValue, NothingLine, BookLine, HouseLine, RollLine, OpeningLine, CutsLine, CommandLine, command_value}
use Rattle.script.specs.Grammar.{understood}
use Rattle.script.specs.FaultValue.{FaultValue, TooLongFault, BadLineFault, fault_value}
use Rattle.script.specs.Misfit.{misfit_of}

-- what a script sets up: the rig's book, the house number, the bytes of the roll, the codes of the
-- opening, the cut numbers
pub record SetupValue : Type 0 where
  pub book : Option BookName
  pub house : ℕ
  pub roll : List ℕ
  pub opening : List ℕ
  pub cuts : List ℕ

-- a command with the number of its line, from 1
pub record NumberedValue : Type 0 where
  pub line : ℕ
  pub asked : CommandValue

-- what was read of a script, and why the reading ended before the end, if it did
pub record ScriptValue : Type 0 where
  pub setup : SetupValue
  pub commands : List NumberedValue
  pub fault : Option FaultValue

-- before the first line: no book, house number 0, and no more
abbrev pub nothing_read : ScriptValue
nothing_read = record {
  setup = record { book = None; house = 0; roll = []; opening = []; cuts = [] };
  commands = [];
  fault = None;
}

-- what a line adds to the setup: the first book is the rig's, a later house number replaces an
-- earlier one, and the roll, the opening and the cut numbers grow
abbrev pub with_setup : LineValue → SetupValue → SetupValue
with_setup NothingLine g = g
with_setup (BookLine b) g = record g { book = option_or g.book (Some b) }
with_setup (HouseLine n) g = record g { house = n }
with_setup (RollLine bs) g = record g { roll = g.roll ++ bs }
with_setup (OpeningLine cs) g = record g { opening = g.opening ++ cs }
with_setup (CutsLine ns) g = record g { cuts = g.cuts ++ ns }
with_setup (CommandLine c) g = g

-- what line k adds to the commands
abbrev pub with_command : ℕ → LineValue → List NumberedValue → List NumberedValue
with_command k (CommandLine c) cs = cs ++ (record { line = k; asked = c } ∷ [])
with_command k _ cs = cs

-- what was read, once line k was
abbrev pub with_line : ℕ → LineValue → ScriptValue → ScriptValue
with_line k x r =
    record { setup = with_setup x r.setup; commands = with_command k x r.commands; fault = r.fault }

-- the book that is chosen below a line
abbrev pub book_after : Option BookName → LineValue → Option BookName
book_after book (BookLine b) = Some b
book_after book _ = book

-- the fault of line k, which no form fits
abbrev pub bad_line : ℕ → Option BookName → List ℕ → FaultValue
bad_line k book l =
    BadLineFault (record { number = k; text = l; misfit = misfit_of book l })

-- the lines from number k on, under the book that is chosen so far, after what was read above them
abbrev pub reading : ℕ → Option BookName → ScriptValue → List (List ℕ) → ScriptValue
reading k book r [] = r
reading k book r (l ∷ ls) =
    elim (understood book l) [
      | None ↦ record r { fault = Some (bad_line k book l) }
      | Some x ↦ reading (suc k) (book_after book x) (with_line k x r) ls
    ]

-- a script is at most 65,536 bytes; a longer one is too long, and not read
abbrev pub script_reading : List ℕ → ScriptValue
script_reading text =
    if not (nat_le (length text) 65536) then record nothing_read { fault = Some TooLongFault }
    else reading 1 None nothing_read (lines text)

-- a setup as it was read
abbrev pub setup_value : Setup → SetupValue
setup_value s = record {
  book = s.book;
  house = s.house;
  roll = vec_items s.roll;
  opening = vec_items s.opening;
  cuts = vec_items s.cuts;
}

-- a numbered command as it was read
abbrev pub numbered_value : Numbered → NumberedValue
numbered_value n = record { line = n.line; asked = command_value n.command }

-- what a script that was read holds
abbrev pub script_value : Script → ScriptValue
script_value s =
    record {
      setup = setup_value s.setup;
      commands = map numbered_value (vec_items s.commands);
      fault = option_map fault_value s.fault;
    }
