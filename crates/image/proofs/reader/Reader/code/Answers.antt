use Rattle.std.proofs.Common.{◌≡◌, ℕ, List, ◌*◌, ◌%◌, true, ltb, Some, None, sym, ap, ◌∙◌, arith}
use Rattle.std.specs.Prelude.{slice_index, if◌then◌else◌}
use Rattle.std.specs.Int.{w64}
use Rattle.std.proofs.lemmas.Bool.{lt-ltb}
use Rattle.std.proofs.lemmas.List.FromFn.{get_or-map-range_with_len}
use Rattle.encoding.specs.Numbers.{number_at}
use Rattle.journals.specs.JournalState.{home_of}
use Rattle.image.specs.Home.{block_at, items_on}
use Rattle.image.specs.Layout.{item_block}
use Rattle.image.specs.Laws.Places.{items_at}
use Rattle.image.proofs.reader.Reader.code.Goals as goal

-- the code stands in its block
pub returns : goal.returns
returns g c =
    let i : ℕ = c.args.item in
    let place : ℕ = i % 8 in
    let h : List (List ℕ) = home_of c.args.self.now in
    let low : ltb i 64 ≡ true = lt-ltb i 64 (omega arith) in
    let there : c.read_code.result ≡ slice_index (items_on h) i =
    c.read_code.ensures.value (omega arith)
    ∙ ap (λ (z : List ℕ). number_at w64 z (8 * place)) (c.block.ensures.value ∙ ap (block_at h) c.item_block.ensures.value)
    ∙ sym (items_at h i (omega arith) ∙ get_or-map-range_with_len (λ k. number_at w64 (block_at h (item_block i)) (8 * k)) 0 8 place place 0 (omega arith) (omega arith)) in
    record { value = ap Some there ∙ sym (ap (λ t. if t then Some (slice_index (items_on h) i) else None) low) }
