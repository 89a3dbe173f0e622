use Rattle.std.proofs.Common.{◌<◌, ◌≤◌, length, ap, ◌∙◌, arith}
use Rattle.changes.specs.Laws.Changes.{written_so_far-next, written_so_far-all}
use Rattle.changes.proofs.change.Change.commit_block.Goals as goal

-- the two bytes of one home more
pub loop-place-preserved : goal.loop-place-preserved
loop-place-preserved c =
    let hs = c.args.self.now in
    let same = c.deref-home-items.ensures.0 ∙ c.self.view_is in
    let few : length hs ≤ 6 = omega (arith, ap length c.self.view_is, c.self.invariant.few) in
    let here : c.loop-place.place < length hs = omega (arith, ap length same, c.loop-place-test.true) in
    written_so_far-next hs _ _ _ _ _ _ same c.loop-place.invariant c.to_le_bytes-bytes.ensures here few

pub returns : goal.returns
returns c =
    let hs = c.args.self.now in
    let same = c.deref-home-items.ensures.0 ∙ c.self.view_is in
    let past : length hs ≤ c.loop-place.place = omega (arith, ap length same, c.loop-place-test.false) in
    record { value = written_so_far-all hs _ _ past c.loop-place.invariant }
