use Rattle.std.proofs.Common.{drop, ◌∙◌, arith, length-drop}
use Rattle.std.proofs.lemmas.List.{take_all}
use Rattle.layout.proofs.roll.roll_blocks.Goals as goal

-- the second half is all that is left
pub returns : goal.returns
returns c =
    let roll = c.args.roll.now in
    record {
      first = c.copy_from_slice.ensures.after;
      last = c.copy_from_slice-2.ensures.after ∙ take_all 64 (drop 64 roll) (simp length-drop (omega (arith, c.told-roll)));
    }
