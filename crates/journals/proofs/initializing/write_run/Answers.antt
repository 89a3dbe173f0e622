use Rattle.std.proofs.Common.{rules, [], take, arith}
use Rattle.std.proofs.lemmas.Result.{err_from_is_err_and}
use Rattle.changes.specs.Homes.{home_at}
use Rattle.journals.specs.Redo.{blocks_from}
use Rattle.journals.specs.Laws.Overlay.{length-blocks_from, blocks_from-at}
use Rattle.journals.proofs.WriteOneMore.{written_size, written_more, written_cut, written_all}
use Rattle.journals.proofs.initializing.write_run.Goals as goal

-- a write that loses power ends the run
pub returns-in_err-write : goal.returns-in_err-write
returns-in_err-write g c =
    let i = c.loop-i.i in
    let xs = c.args.contents.now in
    let hs = blocks_from c.args.first xs in
    let u = c.loop-i.invariant in
    let p = err_from_is_err_and c.from_residual.result c.from_residual.ensures.1 in
    let cut = (c.in_err-write.ensures.writes.met u.on (omega (arith, written_size (take i hs) _ _ u, c.requires.within)) (search rules)).1 in
    record { writes = rw p.1 (written_cut hs i (home_at 0 []) _ _ (omega (arith, length-blocks_from c.args.first xs)) (blocks_from-at c.args.first xs i (home_at 0 []) c.loop-i-test.true) _ _ _ u cut) }

-- one that is done goes on with it
pub loop-i-preserved : goal.loop-i-preserved
loop-i-preserved g c =
    let i = c.loop-i.i in
    let xs = c.args.contents.now in
    let hs = blocks_from c.args.first xs in
    let u = c.loop-i.invariant in
    let done = c.in_ok-write.ensures.writes.met u.on (omega (arith, written_size (take i hs) _ _ u, c.requires.within)) (search rules) in
    written_more hs i (home_at 0 []) _ _ (omega (arith, length-blocks_from c.args.first xs)) (blocks_from-at c.args.first xs i (home_at 0 []) c.loop-i-test.true) _ _ _ u done

pub returns : goal.returns
returns g c =
    let xs = c.args.contents.now in
    record { writes = written_all (blocks_from c.args.first xs) c.loop-i.i _ _ (omega (arith, length-blocks_from c.args.first xs)) c.loop-i.invariant }
