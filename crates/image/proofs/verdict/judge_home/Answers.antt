use Rattle.std.proofs.Common.{ℕ, List, sym, ap, ◌∙◌, arith}
use Rattle.std.proofs.lemmas.Result.{err_from_is_err_and}
use Rattle.journals.specs.JournalState.{home_of}
use Rattle.layout.specs.Head.{head_of}
use Rattle.applying.specs.BookState.{state_of}
use Rattle.image.specs.Laws.Accepting.{tested_head}
use Rattle.image.specs.Verdict.{replayed, home_verdict}
use Rattle.image.proofs.VerdictByTests.{opening_refused, record_refused, all_compared}
use Rattle.image.proofs.verdict.judge_home.Goals as goal

-- the opening is not valid
pub returns-in_err-state : goal.returns-in_err-state
returns-in_err-state g c =
    let m = g.B.Book.meaning in
    let h : List (List ℕ) = home_of c.args.reader.now in
    let p = err_from_is_err_and c.from_residual-in_err-state.result c.from_residual-in_err-state.ensures.1 in
    let refused = opening_refused m c.room-room.result h c.head_block.result c.in_ok-head.head c.head_block.ensures.value c.in_ok-head.ensures.value c.opening.result c.opening.ensures.value _ c.in_err-state.ensures.value in
    record { value = rw (p.1, p.2) (refused ∙ ap (λ z. home_verdict m z h) c.room-room.ensures.value) }

-- a head that passed counts no more records than there is room for
pub replay-requires : goal.replay-requires
replay-requires g c =
    let passed = tested_head g.B.Book.meaning c.room-room.result (head_of c.head_block.result) c.in_ok-head.head (sym c.in_ok-head.ensures.value) in
    record { within = omega (arith, passed.2, c.room-room.ensures.value) }

-- a record is not lawful
pub returns-in_err-replay : goal.returns-in_err-replay
returns-in_err-replay g c =
    let m = g.B.Book.meaning in
    let h : List (List ℕ) = home_of c.args.reader.now in
    let room = ap (λ z. replayed m z h c.in_ok-head.head.count 1 (state_of c.in_ok-state.state)) (sym c.in_ok-state.ensures.room) in
    let p = err_from_is_err_and c.from_residual-in_err-replay.result c.from_residual-in_err-replay.ensures.1 in
    let refused = record_refused m c.room-room.result h c.head_block.result c.in_ok-head.head c.head_block.ensures.value c.in_ok-head.ensures.value c.opening.result c.opening.ensures.value (state_of c.in_ok-state.state) c.in_ok-state.ensures.value _ (room ∙ c.in_err-replay.ensures.replays) in
    record { value = rw (p.1, p.2) (refused ∙ ap (λ z. home_verdict m z h) c.room-room.ensures.value) }

-- all that is left is the comparison
pub returns : goal.returns
returns g c =
    let m = g.B.Book.meaning in
    let h : List (List ℕ) = home_of c.args.reader.now in
    let room = ap (λ z. replayed m z h c.in_ok-head.head.count 1 (state_of c.in_ok-state.state)) (sym c.in_ok-state.ensures.room) in
    record { value = all_compared m c.room-room.result h c.head_block.result c.in_ok-head.head c.head_block.ensures.value c.in_ok-head.ensures.value c.opening.result c.opening.ensures.value (state_of c.in_ok-state.state) c.in_ok-state.ensures.value (state_of c.replay.new.state) _ (room ∙ c.in_ok-replay.ensures.replays) c.compare.ensures.value ∙ ap (λ z. home_verdict m z h) c.room-room.ensures.value }
