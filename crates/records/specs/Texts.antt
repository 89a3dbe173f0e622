-- How a record is printed, for people.
use Rattle.std.specs.Prelude.{ℕ, List, ◌++◌, false, codes, decimal}
use Rattle.std.specs.Fmt.{digits}
use Rattle.records.specs.declared.record.Posting.{Posting}
use Rattle.records.specs.declared.record.Certification.{Certification}
use Rattle.records.specs.declared.record.Record.{Record}
use Rattle.records.specs.declared.record.Record.TheVariants as entry

-- a number in hexadecimal, with small letters: "0x101"
abbrev pub hexadecimal : ℕ → List ℕ
hexadecimal n = codes "0x" ++ digits 16 false n

abbrev pub posting_text : Posting → List ℕ
posting_text p =
    codes "posting: enterer " ++ (decimal p.enterer
    ++ (codes ", countersigner " ++ (decimal p.countersigner
    ++ (codes ", procedure " ++ (decimal p.procedure
    ++ (codes ", a " ++ (decimal p.a
    ++ (codes ", b " ++ (decimal p.b
    ++ (codes ", n " ++ decimal p.amount))))))))))

abbrev pub certification_text : Certification → List ℕ
certification_text c =
    codes "certification: row " ++ (decimal c.row
    ++ (codes ", user " ++ (decimal c.user
    ++ (codes ", procedure " ++ (decimal c.procedure
    ++ (codes ", role " ++ (decimal c.role
    ++ (codes ", mask " ++ hexadecimal c.mask))))))))

abbrev pub record_text : Record → List ℕ
record_text (entry.Posting p) = posting_text p
record_text (entry.Certification c) = certification_text c
record_text (entry.Strike row) = codes "strike: row " ++ decimal row
