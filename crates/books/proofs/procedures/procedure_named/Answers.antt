use Rattle.std.proofs.Common.{rules, ◌+◌, length, ◌∙◌, sym, arith, tests}
use Rattle.std.proofs.lemmas.Iterator.Adapters.{option_map_id}
use Rattle.std.proofs.lemmas.Iterator.{YieldsList-from_range}
use Rattle.std.proofs.lemmas.Iterator.Search.{find_from_yields_List}
use Rattle.books.specs.Words.{word_of, is_word}
use Rattle.books.proofs.FirstOfWord.{find_named}
use Rattle.books.proofs.procedures.procedure_named.Goals as goal

pub returns : goal.returns
returns g c =
    let first = find_from_yields_List (λ p. is_word (word_of g.B.Book.meaning.words p) c.args.word.now) _ _ c.find.result c.find.ensures.ran (YieldsList-from_range 1 (length g.B.Book.meaning.words + 1) (length g.B.Book.meaning.words) (search rules) (omega arith)) (λ x b q k. search (rules, tests)) in
    record { value = sym (option_map_id c.find.result) ∙ first ∙ find_named g.B.Book.meaning.words c.args.word.now }
