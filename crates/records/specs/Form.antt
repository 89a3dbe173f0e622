-- The one form of an audit record: 64 bytes.
use Rattle.std.specs.Prelude.{◌≡◌, ℕ, ◌^◌, ◌<◌, Bool, ◌||◌, List, ◌∷◌, ◌++◌, replicate, Some, None, Option, ◌≢◌, ◌==◌, if◌then◌else◌, slice_index, option_and_then}
use Rattle.std.specs.Int.{w32, w64, to_le_bytes}
use Rattle.std.specs.Str.{bytes_eq}
use Rattle.encoding.specs.Numbers.{number_at}
use Rattle.records.specs.declared.kind.Kind.{Kind}
use Rattle.records.specs.declared.kind.Kind.TheVariants as kind
use Rattle.records.specs.declared.fields.Fields.{Fields}
use Rattle.records.specs.declared.record.Record.{Record}
use Rattle.records.specs.declared.record.Record.TheVariants.{Posting, Certification, Strike}

-- kind, first user, second user, procedure, role, row, a and b in a byte each, then n, mask and
-- record number, then zeros
abbrev pub form : Fields → ℕ → List ℕ
form f number =
    f.kind ∷ (f.first ∷ (f.second ∷ (f.procedure ∷ (f.role ∷ (f.row ∷ (f.a ∷ (f.b
    ∷ (to_le_bytes w64 f.amount ++ (to_le_bytes w64 f.mask ++ (to_le_bytes w32 number ++ replicate 36 0))))))))))

-- the number of a kind of record
abbrev pub kind_number : Kind → ℕ
kind_number kind.Posting = 1
kind_number kind.Certification = 2
kind_number kind.Strike = 3

-- a number is a kind's
abbrev pub is_kind : ℕ → Bool
is_kind n = n == kind_number kind.Posting || (n == kind_number kind.Certification || n == kind_number kind.Strike)

-- no field is filled
abbrev pub nothing_filled : Fields
nothing_filled =
    record { kind = 0; first = 0; second = 0; procedure = 0; role = 0; row = 0; a = 0; b = 0; amount = 0; mask = 0 }

-- what a kind does not fill is zero
abbrev pub fields_of : Record → Fields
fields_of (Posting p) =
    record nothing_filled {
      kind = kind_number kind.Posting;
      first = p.enterer;
      second = p.countersigner;
      procedure = p.procedure;
      a = p.a;
      b = p.b;
      amount = p.amount;
    }
fields_of (Certification c) =
    record nothing_filled {
      kind = kind_number kind.Certification;
      first = c.user;
      procedure = c.procedure;
      role = c.role;
      row = c.row;
      mask = c.mask;
    }
fields_of (Strike w) = record nothing_filled { kind = kind_number kind.Strike; row = w }

-- the block of a record with its number
abbrev pub encoded : ℕ → Record → List ℕ
encoded number x = form (fields_of x) number

-- the amount or mask is of 64 bits
abbrev pub FitsRecord : Record → Type 0
FitsRecord (Posting p) = p.amount < 2 ^ 64
FitsRecord (Certification c) = c.mask < 2 ^ 64
FitsRecord (Strike row) = Unit {0}

-- the posting that a block's fields give, and the certification
abbrev pub posting_in : List ℕ → Record
posting_in c =
    Posting (record {
      enterer = slice_index c 1;
      countersigner = slice_index c 2;
      procedure = slice_index c 3;
      a = slice_index c 6;
      b = slice_index c 7;
      amount = number_at w64 c 8;
    })

abbrev pub certification_in : List ℕ → Record
certification_in c =
    Certification (record {
      user = slice_index c 1;
      procedure = slice_index c 3;
      role = slice_index c 4;
      row = slice_index c 5;
      mask = number_at w64 c 16;
    })

-- the first byte of a block is the number of a kind
abbrev pub has_kind : Kind → List ℕ → Bool
has_kind k c = slice_index c 0 == kind_number k

-- the record that a block's fields give, whatever its other bytes hold
abbrev pub parsed : List ℕ → Option Record
parsed c =
    if has_kind kind.Posting c then Some (posting_in c)
    else if has_kind kind.Certification c then Some (certification_in c)
    else if has_kind kind.Strike c then Some (Strike (slice_index c 5))
    else None

-- an encoded record is read back from its block
abbrev pub RecordsReadBack : Type 0
RecordsReadBack = (number : ℕ) (x : Record) → FitsRecord x → parsed (encoded number x) ≡ Some x

-- a block is a record's exact form, with this number
pub record Exact (number : ℕ) (x : Record) (c : List ℕ) : Type 0 where
  pub fits : FitsRecord x
  pub form : encoded number x ≡ c

-- a block is no record's form, with this number
abbrev pub IsNoForm : ℕ → List ℕ → Type 0
IsNoForm number c = (x : Record) → FitsRecord x → encoded number x ≢ c

-- the record, if the block is its form
abbrev pub if_form : ℕ → List ℕ → Record → Option Record
if_form number c x = if bytes_eq (encoded number x) c then Some x else None

-- the record whose exact form the block is, with this number; none where it is no record's
abbrev pub decoded : ℕ → List ℕ → Option Record
decoded number c = option_and_then (if_form number c) (parsed c)

-- an encoded record is read back from its block, what is read is what the block is the form of, and
-- a block from which nothing is read is no record's form
pub record OneForm : Type 0 where
  pub read_back : (number : ℕ) (x : Record) → FitsRecord x → decoded number (encoded number x) ≡ Some x
  pub exact : (number : ℕ) (x : Record) (c : List ℕ) → decoded number c ≡ Some x → Exact number x c
  pub no_other : (number : ℕ) (x : Record) (c : List ℕ) → decoded number c ≡ None → Exact number x c → ⊥
