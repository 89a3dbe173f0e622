-- How a bad line is told.
use Rattle.std.specs.Prelude.{ℕ, List, ◌++◌, flat_map, codes, encode_utf8_all}
use Rattle.std.specs.Char.Escape.{escape_ascii}
use Rattle.script.specs.FaultValue.{MisfitValue, NoTextMisfit, WordMisfit, TooShortMisfit, BadLineValue}

-- a byte so that a terminal prints it as it stands: quotes, apostrophes and backslashes behind a
-- backslash, a tab as `\t`, a carriage return as `\r`, a line feed as `\n`, and any other byte that
-- does not print as `\x` and two hexadecimal digits
abbrev pub escaped : ℕ → List ℕ
escaped b = encode_utf8_all (escape_ascii b)

-- bytes between double quotes
abbrev pub quoted : List ℕ → List ℕ
quoted bs = codes "\"" ++ (flat_map escaped bs ++ codes "\"")

-- what does not fit, in words
abbrev pub misfit_text : MisfitValue → List ℕ
misfit_text NoTextMisfit = codes "a byte is no text"
misfit_text (WordMisfit w) = quoted w ++ codes " does not fit"
misfit_text TooShortMisfit = codes "a word is missing"

-- the line and what does not fit in it: `  "item bad": "bad" does not fit`
abbrev pub bad_line_text : BadLineValue → List ℕ
bad_line_text b = codes "  " ++ (quoted b.text ++ (codes ": " ++ misfit_text b.misfit))
