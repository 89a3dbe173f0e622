-- The table of refusals, one row a reason: the number that people see, the layer that refuses,
-- where the book-keeper should look first, the rule of Clark and Wilson that the refusal guards,
-- if it guards one, and what it means in a few words. The numbers are 1 to 24 and 26.
use Prim.Native.String.{String}
use Rattle.std.specs.Prelude.{ℕ, List, Option, Some, None, codes}
use Rattle.refusals.specs.declared.reason.Reason.{Reason}
use Rattle.refusals.specs.declared.reason.Reason.TheVariants.{NoSuchProcedure, NoSuchNoteItem, SameItem, BadAmount, BadScript, Shut, PowerLost, BadWord, EntererNotEntitled, Foreign, SamePerson, CountersignerNotEntitled, AuditFull, StepRefused, InvalidAfter, BadFormat, BadSize, InvalidOpening, BadCommitBlock, BadHead, BadRecord, BlockDiffers, BadRow, RowTaken, NoSuchEntry}
use Rattle.refusals.specs.declared.layer.Layer.{Layer}
use Rattle.refusals.specs.declared.layer.Layer.TheVariants.{Note, House, Drive, Journal, Image, Book, Monitor}
use Rattle.refusals.specs.declared.rule.Rule.{Rule}
use Rattle.refusals.specs.declared.rule.Rule.TheVariants.{C1, C2, C3, C4, C5, E1, E2, E3}

pub record Entry : Type 0 where
  pub number : ℕ
  pub layer : Layer
  pub rule : Option Rule
  pub words : List ℕ

abbrev row : ℕ → Layer → Option Rule → String → Entry
row n l r w = record { number = n; layer = l; rule = r; words = codes w }

abbrev pub entry : Reason → Entry
entry NoSuchProcedure = row 1 Note (Some C5) "the book has no such procedure"
entry NoSuchNoteItem = row 2 Note (Some C5) "there is no such item"
entry SameItem = row 3 Note (Some C5) "the two items are the same"
entry BadAmount = row 4 Note (Some C5) "the amount is not from 1 to the ceiling"
entry BadScript = row 5 House None "this line of the script is not understood"
entry Shut = row 6 Monitor None "the monitor is shut"
entry PowerLost = row 7 Drive None "power was lost"
entry BadWord = row 8 Monitor (Some E3) "no such user, or not that user's word"
entry EntererNotEntitled = row 9 Monitor (Some E2) "the enterer is not entitled"
entry Foreign = row 10 Monitor (Some E1) "it belongs to another book or house"
entry SamePerson = row 11 Monitor (Some C3) "enterer and countersigner are the same person"
entry CountersignerNotEntitled = row 12 Monitor (Some E2) "the countersigner is not entitled"
entry AuditFull = row 13 Monitor (Some C4) "the audit is full"
entry StepRefused = row 14 Book (Some C2) "the book refuses the step"
entry InvalidAfter = row 15 Book (Some C2) "the list would not be valid"
entry BadFormat = row 16 Monitor None "bad house number, roll or opening"
entry BadSize = row 17 Drive None "the drive has no lawful size"
entry InvalidOpening = row 18 Book (Some C1) "the opening is not valid"
entry BadCommitBlock = row 19 Journal None "the commit block is not lawful"
entry BadHead = row 20 Image None "the head block is not lawful"
entry BadRecord = row 21 Image (Some C4) "a record is not lawful"
entry BlockDiffers = row 22 Image (Some E1) "a block differs from what the records give"
entry BadRow = row 23 Monitor (Some E2) "the row cannot be certified or struck"
entry RowTaken = row 24 Monitor (Some E2) "the row is taken, or free already"
entry NoSuchEntry = row 26 Monitor None "there is no such item or record"

abbrev pub reason_number : Reason → ℕ
reason_number r = (entry r).number

abbrev pub layer_of : Reason → Layer
layer_of r = (entry r).layer

abbrev pub rule_of : Reason → Option Rule
rule_of r = (entry r).rule

abbrev pub words_of : Reason → List ℕ
words_of r = (entry r).words
