use Rattle.std.proofs.Common.{rules, ◌≡◌, ◌<◌, length, ap, arith}
use Rattle.changes.specs.declared.home.Home.{Home}
use Rattle.changes.specs.Homes.{last}
use Rattle.changes.specs.Laws.Changes.{IsChange-push}
use Rattle.changes.proofs.change.Change.add.Goals as goal

pub invariant_of-self : goal.invariant_of-self
invariant_of-self c =
    let hs = c.self.inside.homes.items in
    let h : Home = record { number = c.in_ok-number.number; content = c.args.content.now } in
    let same : h.number ≡ c.args.block = search rules in
    let room : length hs < 6 = search rules in
    let above : last hs < h.number = omega (arith, c.last.ensures.value, ap last c.self.view_is, c.if-block-last.false, same) in
    rw c.push.ensures.items (IsChange-push hs c.self.invariant h room above (search rules))
