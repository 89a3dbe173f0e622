-- The books that there are: the word that names each, and what each means.
use Rattle.std.specs.Prelude.{ℕ, List, Some, None, codes, Option, ◌==◌, if◌then◌else◌}
use Rattle.std.specs.Str.{bytes_eq}
use Rattle.books.specs.Meaning.{Meaning}
use Rattle.ledger.specs.Ledger.{ledger}
use Rattle.stock.specs.Stock.{stock}
use Rattle.registry.specs.declared.book_name.BookName.{BookName}
use Rattle.registry.specs.declared.book_name.BookName.TheVariants as book-name

-- what the book of a name means
abbrev pub meaning_of : BookName → Meaning
meaning_of book-name.Ledger = ledger
meaning_of book-name.Stock = stock

-- the book that a word names
abbrev pub book_named : List ℕ → Option BookName
book_named w =
    if bytes_eq w (codes "ledger") then Some book-name.Ledger
    else if bytes_eq w (codes "stock") then Some book-name.Stock
    else None

-- the book of a kind number
abbrev pub book_of_kind : ℕ → Option BookName
book_of_kind kind =
    if kind == ledger.kind then Some book-name.Ledger
    else if kind == stock.kind then Some book-name.Stock
    else None
