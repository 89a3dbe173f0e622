use Rattle.std.proofs.Common.{rules, ◌≡◌, Err, Result, sym, refl, ◌∙◌, arith}
use Rattle.std.proofs.lemmas.Bool.{both_ways}
use Rattle.changes.specs.Laws.{change_wide, change_reads_back}
use Rattle.journals.specs.declared.faults.ChangeFault.{ChangeFault}
use Rattle.journals.specs.declared.faults.ChangeFault.TheVariants as fault
use Rattle.journals.specs.Steps.{StepsDone, StepsCut}
use Rattle.journals.proofs.ChangeIsAtomic.{change_made, change_cut}
use Rattle.journals.proofs.journal.Journal.change.Goals as goal

pub returns : goal.returns
returns g c =
    let hs = c.args.change.now in
    let change = c.in_ok-make_steps.ensures.change in
    let steps : StepsDone hs c.args.self.now (g.D.Drive.disk c.make_steps.new.drive) = rw (← c.self.view_is) c.in_ok-make_steps.ensures.steps in
    record {
      changes = record {
        refused_off = λ e. absurd (both_ways _ e (sym c.is_on.ensures.value ∙ c.if-not-is_on.false));
        refused_beyond = λ e l. absurd (omega (arith, c.if-last-size.false, c.last.ensures.value, c.size.ensures.value));
        met = λ e l. change_made hs _ _ change.few (change_wide hs change _ l) (change_reads_back hs change _ l) steps;
      };
    }

pub returns-in_err-make_steps : goal.returns-in_err-make_steps
returns-in_err-make_steps g c =
    let hs = c.args.change.now in
    let change = c.in_err-make_steps.ensures.change in
    let place = c.in_err-make_steps.field-0.0 in
    let steps : StepsCut hs c.args.self.now (g.D.Drive.disk c.make_steps.new.drive) place = rw (← c.self.view_is) c.in_err-make_steps.ensures.steps in
    let is : ◌≡◌ {A = Result (Unit {0}) ChangeFault} c.from_residual.result (Err (fault.Cut place)) = search rules in
    record {
      changes = rw is (record {
        refused_off = λ e. absurd (both_ways _ e (sym c.is_on.ensures.value ∙ c.if-not-is_on.false));
        refused_beyond = λ e l. absurd (omega (arith, c.if-last-size.false, c.last.ensures.value, c.size.ensures.value));
        met = λ e l. (place, refl, change_cut hs _ _ change.few (change_wide hs change _ l) (change_reads_back hs change _ l) place steps);
      });
    }
