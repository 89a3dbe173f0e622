use Rattle.std.proofs.Common.{rules}
use Rattle.std.proofs.lemmas.Iterator.{YieldsList-from_slice}
use Rattle.std.proofs.lemmas.Iterator.Search.{all_from_yields_List}
use borrow.Author.Tests.{tests}
use Rattle.lexer.specs.Pieces.{printable}
use Rattle.lexer.proofs.text.is_text.Goals as goal

pub returns : goal.returns
returns c =
    let each = all_from_yields_List printable _ _ c.all.result c.all.ensures.ran (YieldsList-from_slice c.args.line.now (cc)) (λ x b q k. search (rules, tests)) in
    record { value = each }
