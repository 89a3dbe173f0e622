use Rattle.std.proofs.Common.{◌≡◌, ◌∙◌, List, map, ap, subst}
use Rattle.script.specs.declared.numbered.Numbered.{Numbered}
use Rattle.registry.specs.BookName.{meaning_of}
use Rattle.script.specs.Reading.{SetupValue, NumberedValue, setup_value, numbered_value}
use Rattle.desk.specs.Serving.{RequestValue, request_value}
use Rattle.day.specs.Plan.{requests_of, all_expected}
use Rattle.day.specs.Outcome.{RanAndLeft}
use Rattle.day.proofs.RunsOn.{runs_on}
use Rattle.day.proofs.outcome.run_rig.Goals as goal

pub returns : goal.returns
returns c =
    let g : SetupValue = setup_value c.args.script.now.setup in
    let cs : List NumberedValue = map numbered_value c.args.script.now.commands.items in
    let commands : c.as_slice.result.now ≡ c.args.script.now.commands.items = c.as_slice.ensures.value in
    let asked : map request_value c.in_ok-plan.plan.requests.items ≡ requests_of g cs =
    c.in_ok-plan.ensures.requests ∙ ap (λ (z : List Numbered). requests_of g (map numbered_value z)) commands in
    let expected : c.as_slice-2.result.now ≡ all_expected c.args.start g cs =
    c.as_slice-2.ensures.value ∙ c.in_ok-plan.ensures.expected ∙ ap (λ (z : List Numbered). all_expected c.args.start g (map numbered_value z)) commands in
    let ran : RanAndLeft (meaning_of c.args.book) c.args.start c.args.bytes.items g (requests_of g cs) c.in_ok-day.day c.in_ok-day.drive.items =
    subst (λ (z : List RequestValue). RanAndLeft (meaning_of c.args.book) c.args.start c.args.bytes.items g z c.in_ok-day.day c.in_ok-day.drive.items) asked c.in_ok-day.ensures.runs in
    record { runs = runs_on c.args.book c.args.start c.args.bytes.items g cs c.in_ok-day.day c.in_ok-day.drive.items c.as_slice-2.result.now c.outcome_of.result ran expected c.outcome_of.ensures.replies c.outcome_of.ensures.audit c.outcome_of.ensures.drive }
