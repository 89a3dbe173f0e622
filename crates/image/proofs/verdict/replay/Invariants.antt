use Rattle.std.proofs.Common.{◌≡◌, ◌+◌, ◌-◌}
use Rattle.journals.specs.JournalState.{home_of}
use Rattle.applying.specs.BookState.{state_of}
use Rattle.image.specs.Verdict.{replayed}
use Rattle.image.proofs.verdict.replay.Given as goal

-- the records that are left give what all of them give
abbrev pub invariant-loop-number : goal.invariant-loop-number
invariant-loop-number g l =
    replayed g.B.Book.meaning l.state.room (home_of l.reader) (l.count + 1 - l.number) l.number (state_of l.state)
    ≡ replayed g.B.Book.meaning l.initial.state.room (home_of l.reader) l.count 1 (state_of l.initial.state)
