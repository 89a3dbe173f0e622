use Rattle.std.proofs.Common.{ℕ, List, subst, rules}
use Rattle.std.proofs.lemmas.Result.{err_from_is_err_and, MatchResult-weaker}
use Rattle.drives.specs.Disk.{Disk}
use Rattle.journals.specs.Redo.{blocks_from}
use Rattle.journals.specs.Steps.{BlocksWritten, CutWritingBlocks}
use Rattle.journals.specs.Initializing.{in_filling, in_first_flush, in_block_7, in_last_flush}
use Rattle.journals.proofs.WriteRuns.{but_first, flushed_wide}
use Rattle.journals.proofs.initializing.initialize_blocks.Goals as goal

-- power was lost in blocks 8 to 33
pub returns-in_err-write_run-2 : goal.returns-in_err-write_run-2
returns-in_err-write_run-2 g c =
    let p = err_from_is_err_and c.from_residual-in_err-write_run-2.result c.from_residual-in_err-write_run-2.ensures.1 in
    let a : Disk = g.D.Drive.disk c.write_run.new.drive in
    let e : Disk = g.D.Drive.disk c.write_run-2.new.drive in
    let fills = subst (λ (z : List (List ℕ)). CutWritingBlocks (blocks_from 8 z) a e) (but_first c.args.home.now c.told-home) c.in_err-write_run-2.ensures.writes in
    record { steps = rw p.1 (in_filling c.in_ok-write_run.ensures.writes fills) }

-- in the first flush
pub returns-in_err-flush : goal.returns-in_err-flush
returns-in_err-flush g c =
    let p = err_from_is_err_and c.from_residual-in_err-flush.result c.from_residual-in_err-flush.ensures.1 in
    let a : Disk = g.D.Drive.disk c.write_run.new.drive in
    let b : Disk = g.D.Drive.disk c.write_run-2.new.drive in
    let fills = subst (λ (z : List (List ℕ)). BlocksWritten (blocks_from 8 z) a b) (but_first c.args.home.now c.told-home) c.in_ok-write_run-2.ensures.writes in
    record { steps = rw p.1 (in_first_flush c.in_ok-write_run.ensures.writes fills (c.in_err-flush.ensures.flushes.met fills.on).1) }

-- in the write of block 7
pub returns-in_err-write : goal.returns-in_err-write
returns-in_err-write g c =
    let p = err_from_is_err_and c.from_residual-in_err-write.result c.from_residual-in_err-write.ensures.1 in
    let a : Disk = g.D.Drive.disk c.write_run.new.drive in
    let b : Disk = g.D.Drive.disk c.write_run-2.new.drive in
    let clears = c.in_ok-write_run.ensures.writes in
    let fills = subst (λ (z : List (List ℕ)). BlocksWritten (blocks_from 8 z) a b) (but_first c.args.home.now c.told-home) c.in_ok-write_run-2.ensures.writes in
    let flushed = c.in_ok-flush.ensures.flushes.met fills.on in
    let wide = flushed_wide c.args.home.now _ a b _ clears fills flushed c.requires.wide in
    record { steps = rw p.1 (in_block_7 clears fills flushed (c.in_err-write.ensures.writes.met flushed.on wide (search rules)).1) }

-- in the last flush, or nowhere
pub returns : goal.returns
returns g c =
    let a : Disk = g.D.Drive.disk c.write_run.new.drive in
    let b : Disk = g.D.Drive.disk c.write_run-2.new.drive in
    let f : Disk = g.D.Drive.disk c.flush.new.self in
    let h : Disk = g.D.Drive.disk c.write.new.self in
    let clears = c.in_ok-write_run.ensures.writes in
    let fills = subst (λ (z : List (List ℕ)). BlocksWritten (blocks_from 8 z) a b) (but_first c.args.home.now c.told-home) c.in_ok-write_run-2.ensures.writes in
    let flushed = c.in_ok-flush.ensures.flushes.met fills.on in
    let heads = c.in_ok-write.ensures.writes.met flushed.on (flushed_wide c.args.home.now _ a b f clears fills flushed c.requires.wide) (search rules) in
    record {
      steps = MatchResult-weaker c.flush-2.result (c.flush-2.ensures.flushes.met heads.on)
          (λ _ e. record { zeroed = a; filled = b; flushed = f; completed = h; zeroes = clears; fills = fills; flushes = flushed; completes = heads; ends = e })
          (λ _ e. in_last_flush clears fills flushed heads e.1);
    }
