use Rattle.std.proofs.Common.{rules, ◌≡◌, Ok, Err, Result, sym, refl, ◌∙◌, arith}
use Rattle.std.proofs.lemmas.Bool.{both_ways}
use Rattle.std.proofs.lemmas.Result.{MatchResult-weaker}
use Rattle.drives.specs.declared.drive_fault.DriveFault.{DriveFault}
use Rattle.journals.specs.declared.faults.JournalFault.{JournalFault}
use Rattle.journals.specs.declared.faults.JournalFault.TheVariants.{PowerLost}
use Rattle.drives.specs.Disk.{Disk}
use Rattle.journals.specs.Initializing.{MakesInitialSteps, InitialSteps, CutInitialSteps, Initialized, CutInitializing}
use Rattle.journals.proofs.MappedFault.{put_as}
use Rattle.journals.proofs.WriteRuns.{initialized, cut_initializing}
use Rattle.journals.proofs.journal.Journal.initialize.Goals as goal

pub returns : goal.returns
returns g c =
    let d : Disk = c.args.self.now in
    let e : Disk = g.D.Drive.disk c.initialize_blocks.new.drive in
    let m = c.map_err.result in
    let said = MatchResult-weaker {X = Unit {0}} {Y = DriveFault} c.initialize_blocks.result {P' = λ x. ◌≡◌ {A = Result (Unit {0}) JournalFault} m (Ok x)} {Q' = λ x. ◌≡◌ {A = Result (Unit {0}) JournalFault} m (Err PowerLost)} c.map_err.ensures.cases (λ x e. e) (λ y e. search rules) in
    let lays : MakesInitialSteps c.args.home.now d c.initialize_blocks.result e = rw (← c.self.view_is) c.initialize_blocks.ensures.steps in
    record {
      initializes = record {
        refused_off = λ o. absurd (both_ways _ o (sym c.is_on.ensures.value ∙ c.if-not-is_on.false));
        refused_beyond = λ o l. absurd (omega (arith, c.if-size-lt34.false, c.size.ensures.value));
        met = λ o l. put_as (InitialSteps c.args.home.now d e) (Initialized c.args.home.now d e) (CutInitialSteps c.args.home.now d e) (λ f. (f ≡ PowerLost) × CutInitializing c.args.home.now d e) PowerLost c.initialize_blocks.result m lays said
            (λ k. initialized c.args.home.now d e k c.told-home l) (λ k. (refl, cut_initializing c.args.home.now d e k));
      };
    }
