-- The book that the head of an image names.
use Rattle.std.specs.Prelude.{ℕ, List, ◌++◌, ◌+◌, ◌*◌, not, length, take, drop, Some, None, Ok, Err, Option, Result, nat_le, codes, decimal, if◌then◌else◌}
use Rattle.image.specs.Layout.{head_block}
use Rattle.layout.specs.declared.head.Head.{Head}
use Rattle.layout.specs.Head.{head_of}
use Rattle.registry.specs.declared.book_name.BookName.{BookName}
use Rattle.registry.specs.BookName.{book_of_kind}
use Rattle.judge.specs.declared.head_book.NoBook.{NoBook}
use Rattle.judge.specs.declared.head_book.NoBook.TheVariants as no-book

-- the book of a head's kind, if there is such a head and such a book
abbrev pub book_of_head : Option Head → Result BookName NoBook
book_of_head None = Err no-book.NoHead
book_of_head (Some h) =
    elim (book_of_kind h.kind) [
      | None ↦ Err (no-book.NoSuchKind h.kind)
      | Some b ↦ Ok b
    ]

-- the head stands in its block, of 64 bytes
abbrev pub book_by_head : List ℕ → Result BookName NoBook
book_by_head bytes =
    if not (nat_le (64 * head_block + 64) (length bytes)) then Err no-book.TooSmall
    else book_of_head (head_of (take 64 (drop (64 * head_block) bytes)))

-- why a head names no book, in words
abbrev pub no_book_text : NoBook → List ℕ
no_book_text no-book.TooSmall = codes "it has no block 7, where the head stands"
no_book_text no-book.NoHead = codes "block 7 is no head"
no_book_text (no-book.NoSuchKind k) =
    codes "no book is of kind " ++ (decimal k ++ codes ", as its head says")
