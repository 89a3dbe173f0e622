use Rattle.std.proofs.Common.{◌≡◌, sym, subst, rules}
use Rattle.script.specs.FaultValue.{WordMisfit, misfit_value}
use Rattle.script.specs.Misfit.{misfit_of, FirstMisfit}
use Rattle.script.proofs.FirstMisfit.{first_misfit}
use Rattle.script.proofs.misfit.find_misfit.Goals as goal

pub returns-in-Some-behind-clause-first : goal.returns-in-Some-behind-clause-first
returns-in-Some-behind-clause-first c =
    let value : misfit_value c.first_misfit.result ≡ misfit_of c.args.book c.args.line.now = search rules in
    subst (FirstMisfit c.args.book c.args.line.now) (sym value) (first_misfit c.args.book c.args.line.now)

-- no form has the first word
pub returns-in-None-clause-first : goal.returns-in-None-clause-first
returns-in-None-clause-first c =
    let value : WordMisfit c.in-Some.name.now ≡ misfit_of c.args.book c.args.line.now = search rules in
    subst (FirstMisfit c.args.book c.args.line.now) (sym value) (first_misfit c.args.book c.args.line.now)
