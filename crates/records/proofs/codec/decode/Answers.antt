use Rattle.std.proofs.Common.{◌≡◌, ap, ◌∙◌, rules, tests}
use Rattle.std.specs.Str.{bytes_eq}
use Rattle.std.specs.Option.{option_and_then}
use Rattle.records.specs.Form.{encoded, if_form, decoded}
use Rattle.records.specs.Laws.{decodes}
use Rattle.records.proofs.FilterKeeps.{kept}
use Rattle.records.proofs.codec.decode.Goals as goal

pub returns : goal.returns
returns c =
    let is_form = kept _ (λ x. bytes_eq (encoded c.args.number x) c.args.block.now) (λ p b called. search (rules, tests)) c.parse.result c.filter.result c.filter.ensures in
    let value : c.filter.result ≡ decoded c.args.number c.args.block.now =
    is_form ∙ ap (option_and_then (if_form c.args.number c.args.block.now)) c.parse.ensures.value in
    record { decodes = decodes c.args.number c.args.block.now c.filter.result value; value = value }
