use Rattle.std.proofs.Common.{rules, ◌≡◌, ◌<◌, Ok, Err, Result, subst, arith}
use Rattle.std.proofs.lemmas.Result.{MatchResult-weaker}
use Rattle.std.proofs.lemmas.List.{length-map}
use Rattle.drives.specs.declared.drive_fault.DriveFault.{DriveFault}
use Rattle.drives.specs.Disk.{Disk, size}
use Rattle.changes.specs.Homes.{IsChange, last}
use Rattle.changes.specs.Laws.{change_rises, change_wide}
use Rattle.journals.specs.Steps.{Staged, Committed, Installed, CutInstalling, Installs, StepsDone, StepsCut, in_staging, in_committing, in_installing}
use Rattle.journals.specs.declared.cut_place.CutPlace.{CutPlace}
use Rattle.journals.specs.declared.cut_place.CutPlace.TheVariants.{Staging, Committing, Installing}
use Rattle.journals.proofs.MappedFault.{was_done, was_cut, put_as}
use Rattle.journals.proofs.WriteOneMore.{stored_size, commit_size}
use Rattle.journals.proofs.steps.make_steps.Goals as goal

-- power lost in steps 1 and 2
pub returns-in_err-map_err : goal.returns-in_err-map_err
returns-in_err-map_err g c =
    let cut = was_cut _ _ _ _ c.stage.ensures.stages c.map_err.ensures.variant _ c.in_err-map_err.was in
    let is : ◌≡◌ {A = Result (Unit {0}) CutPlace} c.from_residual.result (Err Staging) = search rules in
    record { steps = rw is (in_staging (rw (← c.homes.ensures.value) cut)); change = subst IsChange c.homes.ensures.value c.homes.ensures.change }

pub store_commit_block-requires : goal.store_commit_block-requires
store_commit_block-requires g c =
    let hs = c.args.change.now in
    let change : IsChange hs = subst IsChange c.homes.ensures.value c.homes.ensures.change in
    let staged = was_done _ _ _ _ c.stage.ensures.stages c.map_err.ensures.variant _ c.in_ok-map_err.was in
    record { on = staged.flushes.on; some = omega (arith, stored_size _ _ _ staged, change_wide hs change _ c.requires.within) }

-- in steps 3 and 4
pub returns-in_err-map_err-2 : goal.returns-in_err-map_err-2
returns-in_err-map_err-2 g c =
    let d : Disk = g.D.Drive.disk c.args.drive.now in
    let s : Disk = g.D.Drive.disk c.stage.new.drive in
    let staged : Staged c.args.change.now d s = rw (← c.homes.ensures.value) (was_done _ _ _ _ c.stage.ensures.stages c.map_err.ensures.variant _ c.in_ok-map_err.was) in
    let cut = was_cut _ _ _ _ c.store_commit_block.ensures.stores c.map_err-2.ensures.variant _ c.in_err-map_err-2.was in
    let is : ◌≡◌ {A = Result (Unit {0}) CutPlace} c.from_residual-in_err-map_err-2.result (Err Committing) = search rules in
    record { steps = rw is (in_committing staged (rw (← c.commit_block.ensures.value) cut)); change = subst IsChange c.homes.ensures.value c.homes.ensures.change }

-- the drive is on, and as large as it was
pub install-requires : goal.install-requires
install-requires g c =
    let hs = c.homes-2.result.now in
    let d : Disk = g.D.Drive.disk c.args.drive.now in
    let within : last hs < size d = rw c.homes-2.ensures.value c.requires.within in
    let staged = was_done _ _ _ _ c.stage.ensures.stages c.map_err.ensures.variant _ c.in_ok-map_err.was in
    let set = was_done _ _ _ _ c.store_commit_block.ensures.stores c.map_err-2.ensures.variant _ c.in_ok-map_err-2.was in
    let a = stored_size _ _ _ staged in
    let b = commit_size _ _ _ set in
    record {
      on = set.flushes.on;
      some = omega (arith, a, b, change_wide hs c.homes-2.ensures.change (size d) within);
      within = λ i h. omega (arith, a, b, (change_rises hs c.homes-2.ensures.change (size d) within).high i (omega (arith, length-map hs (λ h. h.number))));
    }

-- all done, or power lost in steps 5 to 8
pub returns : goal.returns
returns g c =
    let hs = c.args.change.now in
    let d : Disk = g.D.Drive.disk c.args.drive.now in
    let s : Disk = g.D.Drive.disk c.stage.new.drive in
    let t : Disk = g.D.Drive.disk c.store_commit_block.new.drive in
    let e : Disk = g.D.Drive.disk c.install.new.drive in
    let staged : Staged hs d s = rw (← c.homes.ensures.value) (was_done _ _ _ _ c.stage.ensures.stages c.map_err.ensures.variant _ c.in_ok-map_err.was) in
    let set : Committed hs s t = rw (← c.commit_block.ensures.value) (was_done _ _ _ _ c.store_commit_block.ensures.stores c.map_err-2.ensures.variant _ c.in_ok-map_err-2.was) in
    let installs : Installs hs t c.install.result e = rw (← c.homes-2.ensures.value) c.install.ensures.installs in
    let m = c.map_err-3.result in
    let said = MatchResult-weaker {X = Unit {0}} {Y = DriveFault} c.install.result {P' = λ x. ◌≡◌ {A = Result (Unit {0}) CutPlace} m (Ok x)} {Q' = λ x. ◌≡◌ {A = Result (Unit {0}) CutPlace} m (Err Installing)} c.map_err-3.ensures.cases (λ x e. e) (λ y e. search rules) in
    record {
      steps = put_as (Installed hs t e) (StepsDone hs d e) (CutInstalling hs t e) (λ p. StepsCut hs d e p) Installing c.install.result m installs said
          (λ a. record { filled = s; committed = t; stages = staged; commits = set; installs = a })
          (λ a. in_installing staged set a);
      change = subst IsChange c.homes.ensures.value c.homes.ensures.change;
    }
