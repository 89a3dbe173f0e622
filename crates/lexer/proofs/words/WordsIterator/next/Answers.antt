use Rattle.std.proofs.Common.{◌-◌, take, drop, length, sym, ap, ◌∙◌, arith, rules}
use Rattle.std.specs.List.{prefix_len}
use Rattle.std.proofs.lemmas.List.{take_rest}
use Rattle.std.proofs.lemmas.List.Folds.{length-prefix_len}
use Rattle.std.proofs.lemmas.Iterator.{YieldsList-from_slice}
use Rattle.std.proofs.lemmas.Iterator.Search.{position_from_yields_List, YieldsList-from_take_while}
use Rattle.std.proofs.lemmas.Iterator.Consumers.{count_from_yields_List, YieldsList-at}
use borrow.Author.Tests.{tests}
use Rattle.lexer.proofs.FirstPieces.{solid, word_first, no_word}
use Rattle.lexer.proofs.words.WordsIterator.next.Goals as goal

-- nothing but blanks is left
pub returns-in_err-start-clause-steps : goal.returns-in_err-start-clause-steps
returns-in_err-start-clause-steps c =
    let line = c.self.inside.rest.now in
    let left = c.self.view_is in
    let at = position_from_yields_List solid _ _ c.position.result c.position.ensures.ran (YieldsList-from_slice line (cc)) (λ x b q k. search (rules, tests)) in
    let none = no_word line (sym at ∙ c.in_err-start.was) in
    grind arith

-- the next word stands after the blanks
pub returns : goal.returns
returns c =
    let line = c.self.inside.rest.now in
    let left = c.self.view_is in
    let start = c.in_ok-start.start in
    let at = position_from_yields_List solid _ _ c.position.result c.position.ensures.ran (YieldsList-from_slice line (cc)) (λ x b q k. search (rules, tests)) in
    let word = take (length line - start) (drop start line) in
    let count = count_from_yields_List c.take_while.result c.count-end.result c.count-end.ensures.ran (YieldsList-from_take_while _ solid (YieldsList-at c.take_while.ensures.source (YieldsList-from_slice word c.iter-2.ensures.rest)) c.take_while.ensures.closure c.take_while.ensures.done (λ x b q k. search (rules, tests))) in
    let first = word_first line start c.count-end.result (sym at ∙ c.in_ok-start.was) (count ∙ length-prefix_len solid word ∙ ap (prefix_len solid) (take_rest line start)) in
    record { steps = grind (arith, take_rest); goes = grind (arith, take_rest) }
