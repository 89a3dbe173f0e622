use Rattle.std.proofs.Common.{ℕ, List, [], sym, ap, ◌∙◌, arith}
use Rattle.std.proofs.lemmas.List.{ext_get_or}
use Rattle.journals.specs.JournalState.{home_of}
use Rattle.image.specs.Home.{blocks_at}
use Rattle.image.specs.Laws.Places.{block_of, length-blocks}
use Rattle.image.proofs.reader.Reader.part.Goals as goal

-- all eight were read
pub returns : goal.returns
returns g c =
    let h : List (List ℕ) = home_of c.args.self.now in
    let first : ℕ = c.first-first.result in
    let i = c.loop-i.invariant in
    record {
      value =
          ext_get_or [] c.loop-i.found (blocks_at h first 8) (i.0 ∙ sym (length-blocks h first 8))
          (λ k l. i.1 k (omega (arith, i.0)) ∙ sym (block_of h first 8 k (omega (arith, i.0))))
          ∙ ap (λ z. blocks_at h z 8) c.first-first.ensures.value;
    }
