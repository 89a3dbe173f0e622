use Rattle.std.proofs.Common.{◌≡◌, ℕ, List, Option, ◌≤◌, ◌+◌, ◌-◌, sym, ap, ◌∙◌, arith}
use Rattle.std.specs.Prelude.{None, if◌then◌else◌}
use Rattle.std.proofs.lemmas.Bool.{le-leb}
use Rattle.std.proofs.lemmas.Result.{err_from_is_err_and}
use Rattle.journals.specs.JournalState.{size, home_of}
use Rattle.records.specs.declared.record.Record.{Record}
use Rattle.applying.specs.BookState.{state_of}
use Rattle.image.specs.Home.{record_on}
use Rattle.image.specs.Layout.{room}
use Rattle.image.specs.Reading.{record_within}
use Rattle.image.specs.Verdict.{replayed}
use Rattle.image.proofs.ReplayOneMore.{replay_next, replay_stops}
use Rattle.image.proofs.verdict.replay.Goals as goal

-- where there is room for it, the record that was found is the one on the drive
found_there : (most k : ℕ) (h : List (List ℕ)) (o : Option Record) → k ≤ most → o ≡ record_within most h k → o ≡ record_on h k
found_there most k h o l e = e ∙ ap (λ t. if t then record_on h k else None) (le-leb k most l)

-- one was refused
pub returns-in_err-replay_record : goal.returns-in_err-replay_record
returns-in_err-replay_record g c =
    let h = home_of c.args.reader.now in
    let loop = c.loop-number in
    let found = found_there (room (size c.args.reader.now)) loop.number h _ (omega (arith, c.requires.within)) c.record.ensures.value in
    let p = err_from_is_err_and c.from_residual.result c.from_residual.ensures.1 in
    let stops = replay_stops g.B.Book.meaning loop.state.room h c.args.count loop.number (state_of loop.state) c.record.result c.loop-number-test.true found _ c.in_err-replay_record.ensures.replays in
    record { replays = rw (p.1, p.2) (sym loop.invariant ∙ stops) }

-- one record more
pub loop-number-preserved : goal.loop-number-preserved
loop-number-preserved g c =
    let m = g.B.Book.meaning in
    let h = home_of c.args.reader.now in
    let loop = c.loop-number in
    let k : ℕ = loop.number in
    let found = found_there (room (size c.args.reader.now)) k h _ (omega (arith, c.requires.within)) c.record.ensures.value in
    ap (λ z. replayed m z h (c.args.count + 1 - (k + 1)) (k + 1) (state_of c.replay_record.new.state)) c.replay_record.ensures.same_room
    ∙ sym (replay_next m loop.state.room h c.args.count k (state_of loop.state) c.record.result c.loop-number-test.true found (state_of c.replay_record.new.state) c.in_ok-replay_record.ensures.replays)
    ∙ loop.invariant
