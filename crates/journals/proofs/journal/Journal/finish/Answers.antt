use Rattle.std.proofs.Common.{rules, ◌≡◌, Ok, Err, Result, sym, refl, ap, ◌∙◌}
use Rattle.std.proofs.lemmas.Bool.{both_ways}
use Rattle.std.proofs.lemmas.Result.{MatchResult-weaker}
use Rattle.drives.specs.declared.drive_fault.DriveFault.{DriveFault}
use Rattle.drives.specs.Disk.{Disk}
use Rattle.changes.specs.CommitBlock.{count_of, LawfulCommit}
use Rattle.journals.specs.Redo.{commit_block, named_homes}
use Rattle.journals.specs.JournalState.{size, blocks}
use Rattle.journals.specs.Steps.{Installed, CutInstalling, Installs}
use Rattle.journals.specs.Outcomes.{Finished, CutFinishing}
use Rattle.journals.specs.declared.faults.FinishFault.{FinishFault}
use Rattle.journals.specs.declared.faults.FinishFault.TheVariants.{PowerLost}
use Rattle.journals.specs.Laws.{was_read}
use Rattle.journals.specs.Laws.ZeroCommit.{lawful_same}
use Rattle.journals.proofs.MappedFault.{put_as}
use Rattle.journals.proofs.FinishingLeaves.{named_wide, named_within, finished_as_is, finished_installing, finishing_cut}
use Rattle.journals.proofs.journal.Journal.finish.Goals as goal

-- the commit block names nothing
pub returns-then-commit-eq0 : goal.returns-then-commit-eq0
returns-then-commit-eq0 g c =
    let d : Disk = c.args.self.now in
    let read = was_read d 0 c.in-Ok.commit c.in-Ok.ensures.reads in
    let lawful : LawfulCommit (size d) (commit_block (blocks d)) = lawful_same (size d) _ (commit_block (blocks d)) _ (sym c.size.ensures.value) (sym read.content) (c.if-not-is_lawful.ensures.decides.0 refl) in
    let zero : count_of (commit_block (blocks d)) ≡ 0 = ap count_of (sym read.content) ∙ c.if-commit-eq0.true in
    record {
      finishes = record {
        refused_off = λ e. absurd (both_ways _ e read.on);
        refused_unlawful = λ e n. absurd (n lawful);
        nothing = λ e l z. refl;
        met = λ e w l. finished_as_is d _ w lawful read.on zero refl;
      };
    }

pub read_named-requires-clause-wide : goal.read_named-requires-clause-wide
read_named-requires-clause-wide g c =
    let d : Disk = c.args.self.now in
    let read = was_read d 0 c.in-Ok.commit c.in-Ok.ensures.reads in
    let lawful : LawfulCommit (size d) (commit_block (blocks d)) = lawful_same (size d) _ (commit_block (blocks d)) _ (sym c.size.ensures.value) (sym read.content) (c.if-not-is_lawful.ensures.decides.0 refl) in
    named_wide d lawful (λ z. c.if-commit-eq0.false (ap count_of read.content ∙ z))

pub install-requires-clause-within : goal.install-requires-clause-within
install-requires-clause-within g c =
    let d : Disk = c.args.self.now in
    let read = was_read d 0 c.in-Ok.commit c.in-Ok.ensures.reads in
    let lawful : LawfulCommit (size d) (commit_block (blocks d)) = lawful_same (size d) _ (commit_block (blocks d)) _ (sym c.size.ensures.value) (sym read.content) (c.if-not-is_lawful.ensures.decides.0 refl) in
    let hs = c.deref.result.now in
    let same : hs ≡ named_homes (blocks d) = search rules in
    rw c.self.view_is (named_within d hs same lawful)

-- it names some
pub returns : goal.returns
returns g c =
    let d : Disk = c.args.self.now in
    let read = was_read d 0 c.in-Ok.commit c.in-Ok.ensures.reads in
    let lawful : LawfulCommit (size d) (commit_block (blocks d)) = lawful_same (size d) _ (commit_block (blocks d)) _ (sym c.size.ensures.value) (sym read.content) (c.if-not-is_lawful.ensures.decides.0 refl) in
    let some : count_of (commit_block (blocks d)) ≡ 0 → ⊥ = λ z. c.if-commit-eq0.false (ap count_of read.content ∙ z) in
    let wide = named_wide d lawful some in
    let same : c.deref.result.now ≡ named_homes (blocks d) = search rules in
    let m = c.map_err-2.result in
    let said = MatchResult-weaker {X = Unit {0}} {Y = DriveFault} c.install.result {P' = λ x. ◌≡◌ {A = Result (Unit {0}) FinishFault} m (Ok x)} {Q' = λ x. ◌≡◌ {A = Result (Unit {0}) FinishFault} m (Err PowerLost)} c.map_err-2.ensures.cases (λ x e. e) (λ y e. search rules) in
    let e : Disk = g.D.Drive.disk c.install.new.drive in
    let installs : Installs (named_homes (blocks d)) d c.install.result e = rw (← same, ← c.self.view_is) c.install.ensures.installs in
    record {
      finishes = record {
        refused_off = λ f. absurd (both_ways _ f read.on);
        refused_unlawful = λ f n. absurd (n lawful);
        nothing = λ f l z. absurd (some z);
        met = λ f w l. put_as (Installed (named_homes (blocks d)) d e) (Finished d e) (CutInstalling (named_homes (blocks d)) d e) (λ f. (f ≡ PowerLost) × CutFinishing d e) PowerLost c.install.result m installs said
            (finished_installing d e wide lawful) (λ a. (refl, finishing_cut d e wide lawful a));
      };
    }
