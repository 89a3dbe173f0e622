use Rattle.std.proofs.Common.{◌≡◌, codes, refl, rules, arith}
use Rattle.std.proofs.lemmas.Slice.Eq.{text_from_reads}
use Rattle.registry.proofs.book_name.BookName.named.Goals as goal

-- the bytes that the pattern read are one text
pub returns-in-ledger : goal.returns-in-ledger
returns-in-ledger c =
    let text : c.args.word.now ≡ codes "ledger" = text_from_reads c.args.word.now (codes "ledger") (omega arith) (search rules) in
    record { value = rw text refl }
