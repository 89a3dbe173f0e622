use Rattle.std.proofs.Common.{[], ap, ◌∙◌, rules, tests}
use Rattle.std.proofs.lemmas.List.Folds.{flat_map-map}
use Rattle.lists.specs.Arrays.{mapped_by}
use Rattle.std.specs.List.{flat_map}
use Rattle.std.specs.Int.{w64, to_le_bytes}
use Rattle.layout.proofs.codes.codes_block.Goals as goal

-- the eight codes stand one behind the other
pub returns : goal.returns
returns c =
    let codes = mapped_by _ _ (to_le_bytes w64) c.args.codes.now c.map.result 8 0 [] (λ x y q called. search (rules, tests)) c.told-codes c.map.ensures.items in
    record { value = c.copy_from_slice.ensures.after ∙ c.as_flattened.ensures.value ∙ ap (flat_map (λ x. x)) codes ∙ flat_map-map (λ x. x) (to_le_bytes w64) c.args.codes.now }
