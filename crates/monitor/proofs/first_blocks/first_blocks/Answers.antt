use Rattle.std.proofs.Common.{ℕ, ap, ◌∙◌}
use Rattle.layout.specs.Head.{head_form}
use Rattle.layout.specs.Roll.{first_words, last_words}
use Rattle.image.specs.Home.{blocks_of_codes}
use Rattle.monitor.proofs.first_blocks.first_blocks.Goals as goal

-- each part is the one of the definition
pub returns : goal.returns
returns g c =
    let head =
    c.head_block.ensures.value
    ∙ ap (λ (k : ℕ). head_form (record { house = c.args.house; kind = k; count = 0 }))
    (c.KIND.ensures ∙ g.met.B.Book.kind_is) in
    let codes =
    c.codes_blocks-items.ensures.value ∙ ap blocks_of_codes c.copy_from_slice.ensures.after in
    let items = c.copy_from_slice-3.ensures.after ∙ codes in
    let opening = c.copy_from_slice-4.ensures.after ∙ codes in
    let rows = c.copy_from_slice-5.ensures.after ∙ c.rows_blocks.ensures.value in
    let first = c.roll_blocks.ensures.first ∙ ap first_words c.copy_from_slice-2.ensures.after in
    let last = c.roll_blocks.ensures.last ∙ ap last_words c.copy_from_slice-2.ensures.after in
    record { value = rw (items, opening, rows, head, first, last) }
