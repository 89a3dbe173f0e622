use Rattle.std.proofs.Common.{◌≡◌, true, ap, sym, ◌∙◌, subst}
use Rattle.journals.specs.JournalState.{JournalState, size}
use Rattle.layout.specs.ReadBack.{CodesFit}
use Rattle.image.specs.Layout.{lawful_size}
use Rattle.monitor.specs.Starting.{first_home}
use Rattle.monitor.proofs.Formatting.{Lost, lost_powering, lost_initializing, laid}
use Rattle.monitor.proofs.Formatting.{laid_steady, tested, formats_done, powered_done}
use Rattle.monitor.proofs.Formatting.{formats_lost, powered_lost}
use Rattle.monitor.proofs.TestsPassed.{passes}
use Rattle.monitor.proofs.monitor.Monitor.format.Goals as goal
use Rattle.monitor.proofs.monitor.Monitor.format.Goals.{then-is_err-via-then-is_err}
use Rattle.monitor.proofs.monitor.Monitor.format.Goals.{then-is_err-via-else-is_err+then-is_err-2}

-- power was lost
pub returns-then-is_err : goal.returns-then-is_err
returns-then-is_err g c =
    let m = g.B.Book.meaning in
    let a = c.args in
    let b = a.opening.now in
    let d : JournalState = c.self.inside.journal in
    let p : JournalState = c.power.new.self in
    let e : JournalState = c.then-is_err.self-inside.journal in
    let tests = c.in_ok-check_format.ensures in
    let fits : CodesFit b = λ i. (c.type_inv.opening i).fits in
    let lawful : lawful_size (size d) ≡ true =
    ap lawful_size (sym c.size.ensures.value) ∙ tests.size passes in
    let passed = tested m a.house a.roll.now b c.size.result d c.size.ensures.value tests.value in
    let xs = first_home m a.house a.roll.now b in
    let home = c.first_blocks-home.result in
    let named = c.first_blocks-home.ensures.value in
    let left = λ (z : JournalState). Lost xs d z in
    let lost : left e =
    elim c.then-is_err.branch [
      | then-is_err-via-then-is_err w ↦
          (let same : p ≡ e = rw w.self-inside-is in
          subst left same
          (lost_powering xs home named d p lawful c.power.result c.power.ensures.powers
          w.if-is_err.ensures.negation c.power.ensures.done))
      | then-is_err-via-else-is_err+then-is_err-2 w ↦
          (let same : w.initialize.new.self ≡ e = rw w.self-inside-is in
          subst left same
          (lost_initializing xs home named d p lawful c.power.result c.power.ensures.powers
          w.if-is_err.ensures.negation w.initialize.new.self w.initialize.result
          w.initialize.ensures.initializes w.if-is_err-2.ensures.negation))
    ] in
    let answer = c.power_lost.ensures.value in
    record {
      formats =
          formats_lost m a.house a.roll.now b fits a.self.now c.self.inside.stage d
          c.self.view_is passed e lost c.power_lost.result answer;
      powers_up =
          λ q _. powered_lost m a.house a.roll.now b fits a.self.now c.self.inside.stage d
          c.self.view_is passed e lost c.power_lost.result answer q;
    }

pub invariant_of-self-2 : goal.invariant_of-self-2
invariant_of-self-2 g c =
    let m = g.B.Book.meaning in
    let a = c.args in
    let d : JournalState = c.self.inside.journal in
    let tests = c.in_ok-check_format.ensures in
    let lawful : lawful_size (size d) ≡ true =
    ap lawful_size (sym c.size.ensures.value) ∙ tests.size passes in
    let l =
    laid (first_home m a.house a.roll.now a.opening.now) c.first_blocks-home.result
    c.first_blocks-home.ensures.value d c.power.new.self lawful c.power.result
    c.power.ensures.powers c.if-is_err.ensures.negation c.initialize.new.self
    c.initialize.result c.initialize.ensures.initializes c.if-is_err-2.ensures.negation in
    λ _. laid_steady m a.house a.roll.now a.opening.now d c.initialize.new.self lawful l

pub returns : goal.returns
returns g c =
    let m = g.B.Book.meaning in
    let a = c.args in
    let b = a.opening.now in
    let d : JournalState = c.self.inside.journal in
    let e : JournalState = c.initialize.new.self in
    let tests = c.in_ok-check_format.ensures in
    let fits : CodesFit b = λ i. (c.type_inv.opening i).fits in
    let lawful : lawful_size (size d) ≡ true =
    ap lawful_size (sym c.size.ensures.value) ∙ tests.size passes in
    let passed = tested m a.house a.roll.now b c.size.result d c.size.ensures.value tests.value in
    let l =
    laid (first_home m a.house a.roll.now b) c.first_blocks-home.result
    c.first_blocks-home.ensures.value d c.power.new.self lawful c.power.result
    c.power.ensures.powers c.if-is_err.ensures.negation c.initialize.new.self
    c.initialize.result c.initialize.ensures.initializes c.if-is_err-2.ensures.negation in
    record {
      formats =
          formats_done m a.house a.roll.now b fits a.self.now c.self.inside.stage d
          c.self.view_is passed e l;
      powers_up =
          λ _ _. powered_done m a.house a.roll.now b fits a.self.now c.self.inside.stage d
          c.self.view_is passed e l;
    }
