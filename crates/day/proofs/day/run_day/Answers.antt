use Rattle.std.proofs.Common.{◌≡◌, ℕ, List, map, take, drop, sym, ap, subst, ◌∙◌}
use Rattle.trial.specs.Bytes.{blocks_of}
use Rattle.trial.specs.Laws.{blocks_joined, blocks_alone}
use Rattle.script.specs.Reading.{setup_value}
use Rattle.desk.specs.Serving.{request_value}
use Rattle.day.specs.DayRun.{DayRanOr}
use Rattle.day.proofs.day.run_day.Goals as goal

pub returns : goal.returns
returns g c =
    let bytes : List ℕ = c.args.bytes.now in
    let front : List ℕ = c.split_at_mut-blocks.result.0.now in
    let left : List ℕ = c.run_parts-blocks.result.0.now in
    let blocks : blocks_of front ≡ blocks_of bytes = ap blocks_of (c.split_at_mut-blocks.ensures.front ∙ ap (λ z. take z bytes) c.bytes_in_blocks-whole.ensures.value) ∙ blocks_alone bytes in
    record {
      runs = record {
        last = blocks_of left;
        ran = subst (λ z. DayRanOr g.B.Book.meaning c.args.start z (setup_value c.args.setup.now) (map request_value c.args.requests.items) c.run_parts-blocks.result.1 (blocks_of left)) blocks c.run_parts-blocks.ensures.ran;
        blocks_left = c.whole_blocks.ensures.value ∙ sym (blocks_joined left);
        behind_left = c.split_at_mut-blocks.ensures.back ∙ ap (λ z. drop z bytes) c.bytes_in_blocks-whole.ensures.value;
      };
    }
