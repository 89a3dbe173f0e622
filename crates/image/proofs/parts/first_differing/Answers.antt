use Rattle.std.proofs.Common.{◌+◌, None, Some, ap, ◌∙◌, rules, tests}
use Rattle.std.proofs.lemmas.Iterator.{YieldsList-from_slice, YieldsList-from_zip}
use Rattle.std.proofs.lemmas.Iterator.Search.{position_from_yields_List}
use Rattle.image.specs.Layout.{first_block}
use Rattle.image.proofs.FirstDiffering.{apart, differing_found}
use Rattle.image.proofs.parts.first_differing.Goals as goal

-- no block differs
pub returns-in_err-place : goal.returns-in_err-place
returns-in_err-place c =
    let at = position_from_yields_List apart c.position.new.self _ c.position.result c.position.ensures.ran (YieldsList-from_zip {s = c.zip.result} (YieldsList-from_slice c.args.found.now (search rules)) (YieldsList-from_slice c.args.expected.now (search rules))) (λ x b q k. search (rules, tests)) in
    record { value = c.from_residual.ensures ∙ differing_found (first_block c.args.part) c.args.found.now c.args.expected.now _ None at c.in_err-place.was }

-- this one does
pub returns : goal.returns
returns c =
    let at = position_from_yields_List apart c.position.new.self _ c.position.result c.position.ensures.ran (YieldsList-from_zip {s = c.zip.result} (YieldsList-from_slice c.args.found.now (search rules)) (YieldsList-from_slice c.args.expected.now (search rules))) (λ x b q k. search (rules, tests)) in
    record { value = ap (λ z. Some (z + c.in_ok-place.place)) c.first.ensures.value ∙ differing_found (first_block c.args.part) c.args.found.now c.args.expected.now _ (Some c.in_ok-place.place) at c.in_ok-place.was }
