use Rattle.std.proofs.Common.{◌==◌, ◌∙◌, ap, not, take, rules}
use Rattle.std.proofs.lemmas.List.Folds.{length-prefix_len}
use Rattle.std.proofs.lemmas.Iterator.{YieldsList-from_slice}
use Rattle.std.proofs.lemmas.Iterator.Search.{YieldsList-from_take_while}
use Rattle.std.proofs.lemmas.Iterator.Consumers.{count_from_yields_List, YieldsList-at}
use borrow.Author.Tests.{tests}
use Rattle.lexer.proofs.text.without_comment.Goals as goal

-- what is counted is the bytes before the first '#'
pub returns : goal.returns
returns c =
    let line = c.args.line.now in
    let count = count_from_yields_List c.take_while.result c.count-length.result c.count-length.ensures.ran (YieldsList-from_take_while _ (λ b. not (b == 35)) (YieldsList-at c.take_while.ensures.source (YieldsList-from_slice line c.iter.ensures.rest)) c.take_while.ensures.closure c.take_while.ensures.done (λ x b q k. search (rules, tests))) in
    record { value = ap (λ n. take n line) (count ∙ length-prefix_len _ line) }
