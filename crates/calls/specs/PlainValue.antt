-- A call that needs no slip, by its numbers and bytes.
use Rattle.std.specs.Prelude.{ℕ, List}
use Rattle.applying.specs.declared.row_draft.RowDraft.{RowDraft}
use Rattle.calls.specs.declared.plain.Plain.{Plain}
use Rattle.calls.specs.declared.plain.Plain.TheVariants as plain

pub data PlainValue : Type 0 where
  -- the drive is formatted: a house number, the bytes of the roll, the opening's codes
  FormatCall : (house : ℕ) (roll opening : List ℕ) → PlainValue
  -- the drive is attached as it stands
  AttachCall : PlainValue
  -- a row of the rights is filled, by who gives the custodian's word
  CertifyCall : (word : List ℕ) (draft : RowDraft) → PlainValue
  -- a row is freed, by who gives that word
  StrikeCall : (word : List ℕ) (row : ℕ) → PlainValue
  -- an item is looked up
  ItemCall : (item : ℕ) → PlainValue
  -- a record is looked up
  RecordCall : (number : ℕ) → PlainValue

abbrev pub plain_value : Plain → PlainValue
plain_value (plain.Format house roll opening) = FormatCall house roll.now opening.now
plain_value plain.Attach = AttachCall
plain_value (plain.Certify word draft) = CertifyCall word.now draft
plain_value (plain.Strike word row) = StrikeCall word.now row
plain_value (plain.Item item) = ItemCall item
plain_value (plain.Record number) = RecordCall number
