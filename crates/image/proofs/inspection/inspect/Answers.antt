use Rattle.std.proofs.Common.{◌≡◌, true, Ok, Err, subst, rules, tests}
use Rattle.std.specs.Prelude.{MatchResult}
use Rattle.journals.specs.Outcomes.{PowersOn, Finishes}
use Rattle.journals.specs.JournalState.{size}
use Rattle.image.specs.Layout.{lawful_size}
use Rattle.image.specs.Inspects.{unfinished_for}
use Rattle.image.proofs.InspectionAfterPower.{inspect_judged, inspect_refused, inspects_on}
use Rattle.image.proofs.inspection.inspect.Goals as goal

-- finishing did not end
pub returns-in_err-map_err-2 : goal.returns-in_err-map_err-2
returns-in_err-map_err-2 g c =
    let d = c.args.journal.now in
    let p = c.power.new.self in
    let e = c.finish.new.self in
    let fits : lawful_size (size d) ≡ true = search (rules, tests) in
    let on : c.power.result ≡ Ok tt = search (rules, tests) in
    let says : MatchResult c.finish.result (λ _. ⊥) (λ x. c.from_residual-in_err-map_err-2.result ≡ Err (unfinished_for x)) = search (rules, tests) in
    let powers = subst (λ z. PowersOn d z p) on c.power.ensures.powers in
    let met = inspect_refused g.B.Book.meaning d p e fits powers c.finish.result _ c.finish.ensures.finishes says in
    record { inspects = inspects_on g.B.Book.meaning d p e fits powers _ met; powers_up = λ _ _. met }

-- what stands was judged
pub returns : goal.returns
returns g c =
    let d = c.args.journal.now in
    let p = c.power.new.self in
    let e = c.finish.new.self in
    let fits : lawful_size (size d) ≡ true = search (rules, tests) in
    let on : c.power.result ≡ Ok tt = search (rules, tests) in
    let ended : c.finish.result ≡ Ok tt = search (rules, tests) in
    let powers = subst (λ z. PowersOn d z p) on c.power.ensures.powers in
    let met = inspect_judged g.B.Book.meaning d p e fits powers c.judge_home.result (subst (λ z. Finishes p z e) ended c.finish.ensures.finishes) c.judge_home.ensures.value in
    record { inspects = inspects_on g.B.Book.meaning d p e fits powers _ met; powers_up = λ _ _. met }
