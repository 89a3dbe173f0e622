use Rattle.std.proofs.Common.{◌≡◌, ◌+◌, ◌≤◌, length, None}
use Rattle.std.specs.Iterator.Adapters.{zip_first, zip_second}
use Rattle.lexer.specs.Pieces.{lines}
use Rattle.script.specs.Reading.{reading, nothing_read, script_value}
use Rattle.script.proofs.reading.read_script.Given as goal

-- the reading of the lines that are left, after what was read, is the reading of the whole
abbrev pub invariant-loop-number : goal.invariant-loop-number
invariant-loop-number l = record {
  whole : reading (zip_first l.number-iterator).start l.book (script_value l.script) (zip_second l.number-iterator) ≡ reading 1 None nothing_read (lines l.text);
  numbers_last : (zip_first l.number-iterator).start + length (zip_second l.number-iterator) ≤ 65538;
}
