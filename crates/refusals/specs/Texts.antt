-- What is printed of a refusal: one line that can be read out on the telephone.
use Rattle.std.specs.Prelude.{ℕ, List, ◌++◌, Some, None, codes, decimal, Option}
use Rattle.refusals.specs.declared.layer.Layer.{Layer}
use Rattle.refusals.specs.declared.layer.Layer.TheVariants as layer
use Rattle.refusals.specs.declared.rule.Rule.{Rule}
use Rattle.refusals.specs.declared.rule.Rule.TheVariants as rule
use Rattle.refusals.specs.declared.refusal.Refusal.{Refusal}
use Rattle.refusals.specs.Table.{entry, words_of}

abbrev pub layer_name : Layer → List ℕ
layer_name layer.Note = codes "note"
layer_name layer.House = codes "house"
layer_name layer.Drive = codes "drive"
layer_name layer.Journal = codes "journal"
layer_name layer.Image = codes "image"
layer_name layer.Book = codes "book"
layer_name layer.Monitor = codes "monitor"

abbrev pub rule_name : Rule → List ℕ
rule_name rule.C1 = codes "C1"
rule_name rule.C2 = codes "C2"
rule_name rule.C3 = codes "C3"
rule_name rule.C4 = codes "C4"
rule_name rule.C5 = codes "C5"
rule_name rule.E1 = codes "E1"
rule_name rule.E2 = codes "E2"
rule_name rule.E3 = codes "E3"
rule_name rule.E4 = codes "E4"

-- the rule that a refusal guards, or that it guards none
abbrev pub rule_text : Option Rule → List ℕ
rule_text (Some r) = rule_name r
rule_text None = codes "no rule"

-- the line up to its words: "refusal 3 (note, C5), place 8"
abbrev pub heading_text : Refusal → List ℕ
heading_text r =
    let e = entry r.reason in
    codes "refusal " ++ (decimal e.number ++ (codes " (" ++ (layer_name e.layer ++ (codes ", " ++
    (rule_text e.rule ++ (codes "), place " ++ decimal r.place))))))

-- the whole line: "refusal 3 (note, C5), place 8: the two items are the same"
abbrev pub refusal_text : Refusal → List ℕ
refusal_text r = heading_text r ++ (codes ": " ++ words_of r.reason)
