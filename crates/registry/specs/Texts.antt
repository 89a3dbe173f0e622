-- How an item of a book is printed, for people.
use Rattle.std.specs.Prelude.{ℕ, List}
use Rattle.ledger.specs.Ledger.{balance}
use Rattle.ledger.specs.Texts.{balance_text}
use Rattle.stock.specs.Stock.{held, most}
use Rattle.stock.specs.Texts.{reels_text}
use Rattle.registry.specs.declared.book_name.BookName.{BookName}
use Rattle.registry.specs.declared.book_name.BookName.TheVariants as book-name

-- what the code of an item stands for in a book: "45.00", or "4 held of 10"
abbrev pub code_text : BookName → ℕ → List ℕ
code_text book-name.Ledger c = balance_text (balance c)
code_text book-name.Stock c = reels_text (held c) (most c)
