use Rattle.std.proofs.Common.{◌≡◌, ℕ, List, IfOk, subst}
use Rattle.script.specs.Reading.{script_reading}
use Rattle.day.specs.declared.start.Start.TheVariants.{Format}
use Rattle.day.specs.Outcome.{new_drive, Runs}
use Rattle.day.proofs.outcome.run_script.Goals as goal

-- the new drive is all zero
pub returns : goal.returns
returns c =
    let zeros : c.in_ok-vec.field-0.items ≡ new_drive = c.in_ok-vec.ensures.items_if_clones_equal (λ y e. e) in
    record { runs = subst (λ (z : List ℕ). IfOk c.run_script_on.result (Runs Format z (script_reading c.args.text.now))) zeros c.run_script_on.ensures.runs }
