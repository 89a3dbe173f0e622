use Rattle.std.proofs.Common.{rules, ◌≡◌, ℕ, ◌+◌, ◌<◌, List, [], length, get_or, take, ap, ◌∙◌, arith}
use Rattle.std.proofs.lemmas.Result.{err_from_is_err_and}
use Rattle.std.proofs.lemmas.List.{length-map, get_or-map}
use Rattle.changes.specs.declared.home.Home.{Home}
use Rattle.changes.specs.Homes.{home_at, contents}
use Rattle.journals.specs.Redo.{slot_blocks}
use Rattle.journals.specs.Laws.Overlay.{length-blocks_from, blocks_from-at}
use Rattle.journals.proofs.WriteOneMore.{written_size, written_more, written_cut, written_all}
use Rattle.journals.proofs.steps.fill_slots.Goals as goal

length-slot_blocks : (hs : List Home) → length (slot_blocks hs) ≡ length hs
length-slot_blocks hs = length-blocks_from 1 (contents hs) ∙ length-map hs (λ h. h.content)

slot_blocks-at : (hs : List Home) (i : ℕ) (z : Home) → i < length hs → get_or (slot_blocks hs) i z ≡ home_at (1 + i) (get_or hs i z).content
slot_blocks-at hs i z h =
    blocks_from-at 1 (contents hs) i z (omega (arith, length-map hs (λ h. h.content))) ∙ ap (home_at (1 + i)) (get_or-map (λ h. h.content) hs i z [] h)

-- a write that loses power ends the run
pub returns-in_err-write : goal.returns-in_err-write
returns-in_err-write g c =
    let i = c.loop-place.place in
    let hs = c.args.homes.now in
    let u = c.loop-place.invariant in
    let p = err_from_is_err_and c.from_residual.result c.from_residual.ensures.1 in
    let cut = (c.in_err-write.ensures.writes.met u.on (omega (arith, written_size (take i (slot_blocks hs)) _ _ u, c.requires.few, c.requires.wide)) (search rules)).1 in
    record { writes = rw p.1 (written_cut (slot_blocks hs) i _ _ _ (omega (arith, length-slot_blocks hs)) (slot_blocks-at hs i _ (search rules)) _ _ _ u cut) }

-- one that is done goes on with it
pub loop-place-preserved : goal.loop-place-preserved
loop-place-preserved g c =
    let i = c.loop-place.place in
    let hs = c.args.homes.now in
    let u = c.loop-place.invariant in
    let done = c.in_ok-write.ensures.writes.met u.on (omega (arith, written_size (take i (slot_blocks hs)) _ _ u, c.requires.few, c.requires.wide)) (search rules) in
    written_more (slot_blocks hs) i _ _ _ (omega (arith, length-slot_blocks hs)) (slot_blocks-at hs i _ (search rules)) _ _ _ u done

pub returns : goal.returns
returns g c =
    let hs = c.args.homes.now in
    record { writes = written_all (slot_blocks hs) c.loop-place.place _ _ (omega (arith, length-slot_blocks hs)) c.loop-place.invariant }
