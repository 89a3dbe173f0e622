use Rattle.std.proofs.Common.{rules, ◌≡◌, ℕ, ◌<◌, List, length, get_or, take, sym, ap, ◌∙◌, arith}
use Rattle.std.proofs.lemmas.Result.{err_from_is_err_and}
use Rattle.std.proofs.lemmas.List.{get_or-map}
use Rattle.changes.specs.declared.home.Home.{Home}
use Rattle.changes.specs.Homes.{home_at, numbers}
use Rattle.journals.proofs.WriteOneMore.{written_size, written_more, written_cut, written_all}
use Rattle.journals.proofs.steps.write_homes.Goals as goal

-- the number that the code reads
number : (hs : List Home) (i : ℕ) (z : Home) (b : ℕ) → i < length hs → b ≡ (get_or hs i z).number → b ≡ get_or (numbers hs) i 0
number hs i z b h e = e ∙ sym (get_or-map (λ h. h.number) hs i z 0 h)

-- and the home that it writes
written : (hs : List Home) (i : ℕ) (z : Home) (b : ℕ) → b ≡ (get_or hs i z).number → get_or hs i z ≡ home_at b (get_or hs i z).content
written hs i z b e = ap (λ n. home_at n (get_or hs i z).content) (sym e)

-- a write that loses power ends the run
pub returns-in_err-write : goal.returns-in_err-write
returns-in_err-write g c =
    let i = c.loop-home.home-index in
    let hs = c.args.homes.now in
    let u = c.loop-home.invariant in
    let here : i < length hs = search rules in
    let p = err_from_is_err_and c.from_residual.result c.from_residual.ensures.1 in
    let cut = (c.in_err-write.ensures.writes.met u.on (omega (arith, written_size (take i hs) _ _ u, c.requires.within i here, number hs i _ _ here c.from.ensures)) (search rules)).1 in
    record { writes = rw p.1 (written_cut hs i _ c.from.result _ here (written hs i _ c.from.result c.from.ensures) _ _ _ u cut); same_size = cut.same_size ∙ written_size (take i hs) _ _ u }

-- one that is done goes on with it
pub loop-home-preserved : goal.loop-home-preserved
loop-home-preserved g c =
    let i = c.loop-home.home-index in
    let hs = c.args.homes.now in
    let u = c.loop-home.invariant in
    let here : i < length hs = search rules in
    let done = c.in_ok-write.ensures.writes.met u.on (omega (arith, written_size (take i hs) _ _ u, c.requires.within i here, number hs i _ _ here c.from.ensures)) (search rules) in
    written_more hs i _ c.from.result _ here (written hs i _ c.from.result c.from.ensures) _ _ _ u done

pub returns : goal.returns
returns g c =
    let all = written_all c.args.homes.now c.loop-home.home-index _ _ (search rules) c.loop-home.invariant in
    record { writes = all; same_size = written_size c.args.homes.now _ _ all }
