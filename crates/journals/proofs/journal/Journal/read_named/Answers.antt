use Rattle.std.proofs.Common.{◌≡◌, ◌+◌, ◌∷◌, [], ◌++◌, map, sym, ap, ◌∙◌, arith}
use Rattle.std.specs.List.{range_with_len}
use Rattle.std.proofs.lemmas.List.FromFn.{map-range_with_len_more}
use Rattle.changes.specs.Homes.{home_at}
use Rattle.changes.specs.CommitBlock.{number_of}
use Rattle.journals.specs.Redo.{named_home, commit_block}
use Rattle.journals.specs.Laws.{was_read}
use Rattle.journals.proofs.journal.Journal.read_named.Goals as goal

-- the next home
pub loop-place-preserved : goal.loop-place-preserved
loop-place-preserved g c =
    let d = c.args.self.now in
    let i = c.loop-place.place in
    let read = was_read d (1 + i) c.in_ok-read.field-0 c.in_ok-read.ensures.reads in
    let number : c.named_block.result ≡ number_of (commit_block d.blocks) i = c.named_block.ensures.value (omega (arith, c.requires.few)) ∙ ap (λ b. number_of b i) c.requires.commit in
    let next : home_at c.named_block.result c.in_ok-read.field-0 ≡ named_home d.blocks i = λ j. home_at (number j) (read.content j) in
    c.push.ensures.items
    ∙ ap (λ hs. hs ++ home_at c.named_block.result c.in_ok-read.field-0 ∷ []) c.loop-place.invariant
    ∙ ap (λ h. map (named_home d.blocks) (range_with_len 0 i) ++ h ∷ []) next
    ∙ sym (map-range_with_len_more (named_home d.blocks) 0 i i (omega arith))
