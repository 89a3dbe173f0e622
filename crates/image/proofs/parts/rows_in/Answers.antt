use Rattle.std.proofs.Common.{[], ap, ◌∙◌}
use Rattle.std.specs.List.{flat_map}
use Rattle.std.proofs.lemmas.List.Folds.{flat_map-map}
use Rattle.lists.specs.Arrays.{mapped_by}
use Rattle.layout.specs.Rows.{rows_of}
use Rattle.image.proofs.parts.rows_in.Goals as goal

-- the rows of each block, one behind the other
pub returns : goal.returns
returns c =
    let each = mapped_by _ _ rows_of c.args.blocks.now c.map.result 8 [] [] (λ x y q called. (called.met.1, called.met.0)) c.told-blocks c.map.ensures.items in
    record { value = c.copy_from_slice.ensures.after ∙ c.as_flattened.ensures.value ∙ ap (flat_map (λ x. x)) each ∙ flat_map-map (λ x. x) rows_of c.args.blocks.now }
