use Rattle.std.proofs.Common.{rules, List, get_or, Some, sym, ap, ◌∙◌}
use Rattle.std.specs.List.{remove}
use Rattle.std.specs.Option.{option_map}
use Rattle.std.proofs.lemmas.Iterator.{YieldsList-from_slice}
use Rattle.std.proofs.lemmas.Iterator.Search.{position_from_yields_List}
use borrow.Author.Tests.{tests}
use Rattle.monitor.specs.Slips.{SlipValue}
use Rattle.desk.specs.declared.tray.WaitingSlip.{WaitingSlip}
use Rattle.desk.specs.Serving.{waiting_values}
use Rattle.desk.proofs.TrayAsDefined.{bears, not_there, there, none_waits, none_goes, first_waits, first_goes}
use Rattle.desk.proofs.tray.take_slip.Goals as goal

-- no slip waits under the name
pub returns-in_err-place-clause-slip : goal.returns-in_err-place-clause-slip
returns-in_err-place-clause-slip c =
    let ws : List WaitingSlip = c.args.tray.now.items in
    let n = c.args.name.now in
    let at = position_from_yields_List (bears n) _ _ c.position.result c.position.ensures.ran (YieldsList-from_slice ws (cc)) (λ x b q k. search (rules, tests)) in
    ap (option_map (λ (z : SlipValue). z.entered)) c.from_residual.ensures ∙ sym (none_waits n ws (not_there _ _ _ at c.in_err-place.was))

pub returns-in_err-place-clause-rest : goal.returns-in_err-place-clause-rest
returns-in_err-place-clause-rest c =
    let ws : List WaitingSlip = c.args.tray.now.items in
    let n = c.args.name.now in
    let at = position_from_yields_List (bears n) _ _ c.position.result c.position.ensures.ran (YieldsList-from_slice ws (cc)) (λ x b q k. search (rules, tests)) in
    sym (none_goes n ws (not_there _ _ _ at c.in_err-place.was))

-- the first one that does
pub returns-clause-slip : goal.returns-clause-slip
returns-clause-slip c =
    let ws : List WaitingSlip = c.args.tray.now.items in
    let n = c.args.name.now in
    let x : WaitingSlip = c.remove-slip.result in
    let at = position_from_yields_List (bears n) _ _ c.position.result c.position.ensures.ran (YieldsList-from_slice ws (cc)) (λ x b q k. search (rules, tests)) in
    let found = there _ _ _ at c.in_ok-place.place c.in_ok-place.was in
    ap (λ (w : WaitingSlip). Some w.slip.entered) (c.remove-slip.ensures.value ∙ ap (λ i. get_or ws i x) found.0) ∙ sym (first_waits n ws x found.1)

pub returns-clause-rest : goal.returns-clause-rest
returns-clause-rest c =
    let ws : List WaitingSlip = c.args.tray.now.items in
    let n = c.args.name.now in
    let at = position_from_yields_List (bears n) _ _ c.position.result c.position.ensures.ran (YieldsList-from_slice ws (cc)) (λ x b q k. search (rules, tests)) in
    let found = there _ _ _ at c.in_ok-place.place c.in_ok-place.was in
    ap waiting_values (c.remove-slip.ensures.items ∙ ap (remove ws) found.0) ∙ sym (first_goes n ws found.1)
