use Rattle.std.proofs.Common.{not, None, sym, ap, ◌∙◌}
use Rattle.std.specs.Str.{bytes_eq}
use Rattle.layout.specs.Head.{head_form}
use Rattle.layout.specs.Laws.{other_form, head_reads}
use Rattle.layout.proofs.head.read_head.Goals as goal

pub returns-then-ne-clause-value : goal.returns-then-ne-clause-value
returns-then-ne-clause-value c =
    let block = c.args.block.now in
    let form = ap head_form (sym c.head_fields-head.ensures.value) ∙ sym c.head_block.ensures.value in
    other_form block (ap (λ z. not (bytes_eq z block)) form ∙ sym c.ne.ensures ∙ c.if-ne.true)

pub returns-then-ne-clause-reads : goal.returns-then-ne-clause-reads
returns-then-ne-clause-reads c = head_reads c.args.block.now None (returns-then-ne-clause-value c)
