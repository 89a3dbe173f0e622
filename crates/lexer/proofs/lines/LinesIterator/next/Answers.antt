use Rattle.std.proofs.Common.{◌∙◌, not, arith, rules}
use Rattle.std.proofs.lemmas.List.{take_rest}
use Rattle.std.proofs.lemmas.List.Folds.{length-prefix_len}
use Rattle.std.proofs.lemmas.Iterator.{YieldsList-from_slice}
use Rattle.std.proofs.lemmas.Iterator.Search.{YieldsList-from_take_while}
use Rattle.std.proofs.lemmas.Iterator.Consumers.{count_from_yields_List, YieldsList-at}
use borrow.Author.Tests.{tests}
use Rattle.lexer.specs.Pieces.{newline}
use Rattle.lexer.proofs.FirstPieces.{line_first, line_last, line_within}
use Rattle.lexer.proofs.lines.LinesIterator.next.Goals as goal

-- without a line feed, the text is its own last line
pub returns-then-end-text-clause-steps : goal.returns-then-end-text-clause-steps
returns-then-end-text-clause-steps c =
    let text = c.in_ok-text.text.now in
    let count = count_from_yields_List c.take_while.result c.count-end.result c.count-end.ensures.ran (YieldsList-from_take_while _ (λ b. not (newline b)) (YieldsList-at c.take_while.ensures.source (YieldsList-from_slice text c.iter.ensures.rest)) c.take_while.ensures.closure c.take_while.ensures.done (λ x b q k. search (rules, tests))) in
    let line = line_last text c.count-end.result (count ∙ length-prefix_len _ text) (omega arith) in
    let was = c.in_ok-text.was in
    grind (arith, take_rest)

-- a line feed ends the first line
pub returns : goal.returns
returns c =
    let text = c.in_ok-text.text.now in
    let count = count_from_yields_List c.take_while.result c.count-end.result c.count-end.ensures.ran (YieldsList-from_take_while _ (λ b. not (newline b)) (YieldsList-at c.take_while.ensures.source (YieldsList-from_slice text c.iter.ensures.rest)) c.take_while.ensures.closure c.take_while.ensures.done (λ x b q k. search (rules, tests))) in
    let at = count ∙ length-prefix_len _ text in
    let within = line_within text c.count-end.result at in
    let line = line_first text c.count-end.result at (omega arith) in
    let was = c.in_ok-text.was in
    record { steps = grind (arith, take_rest); goes = grind (arith, take_rest) }
