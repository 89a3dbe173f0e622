-- What a day that was run came to.
use Rattle.std.proofs.Common.{◌≡◌, ℕ, List, ◌++◌, Some, Ok, Err, Result, vec_items, IfOk, IsSomeAnd, sym, ap, subst, ◌∙◌}
use Rattle.std.specs.declared.alloc.AllocError.{AllocError}
use Rattle.registry.specs.declared.book_name.BookName.{BookName}
use Rattle.registry.specs.BookName.{meaning_of}
use Rattle.books.specs.Meaning.{Meaning}
use Rattle.desk.specs.Serving.{RequestValue}
use Rattle.script.specs.Reading.{SetupValue, NumberedValue}
use Rattle.monitor.specs.declared.stage.Stage.{Stage}
use Rattle.day.specs.declared.day.Day.{Day}
use Rattle.day.specs.declared.plan.Expected.{Expected}
use Rattle.day.specs.declared.outcome.Outcome.{Outcome}
use Rattle.day.specs.Plan.{requests_of, all_expected}
use Rattle.day.specs.Replies.{replies_of}
use Rattle.day.specs.declared.left.Left.{Left}
use Rattle.day.specs.declared.start.Start.{Start}
use Rattle.std.specs.List.{concat}
use Rattle.day.specs.DayRun.{blocks_on, RunsDay}
use Rattle.day.specs.Outcome.{left_in, Shows, RanAndLeft, RunsOn}
use Rattle.day.proofs.LooksTellTally.{tells_tally}
use Rattle.day.proofs.EveryCommandAnswered.{sources, everything}

-- a day that was run, by what it told and handed back
pub ran_and_left :
    (m : Meaning) (s : Start) (bytes : List ℕ) (g : SetupValue) (requests : List RequestValue) (day : Day) (left : Left) (kept : List ℕ)
    → RunsDay m s bytes g requests (Ok day) left → kept ≡ left.blocks.now ++ left.behind.now → RanAndLeft m s bytes g requests day kept
ran_and_left m s bytes g requests day left kept k e =
    let end = k.ran.0 in
    let blocks : left.blocks.now ≡ concat (blocks_on end) = k.blocks_left ∙ ap concat (sym k.ran.2) in
    (end, k.ran.1, e ∙ ap (λ z. z ++ left.behind.now) blocks ∙ ap (λ z. concat (blocks_on end) ++ z) k.behind_left, k.ran.3)

pub runs_on :
    (b : BookName) (s : Start) (bytes : List ℕ) (g : SetupValue) (cs : List NumberedValue) (day : Day) (left : List ℕ) (xs : List Expected) (r : Result Outcome AllocError)
    → RanAndLeft (meaning_of b) s bytes g (requests_of g cs) day left → xs ≡ all_expected s g cs
    → IfOk r (λ o. vec_items o.replies ≡ replies_of b xs (vec_items day.firsts ++ vec_items day.told))
    → IfOk r (λ o. IsSomeAnd o.audit (Shows b day.stage (vec_items day.looks)))
    → IfOk r (λ o. left_in o ≡ Some left)
    → IfOk r (λ o. RunsOn b s bytes g cs (vec_items o.replies) o.audit (left_in o))
runs_on b s bytes g cs day left xs (Err e) k x p a l = tt
runs_on b s bytes g cs day left xs (Ok o) (end, at, is, ran) x p a l =
    let all : vec_items o.replies ≡ replies_of b (all_expected s g cs) (vec_items day.firsts ++ vec_items day.told) =
    p ∙ ap (λ z. replies_of b z (vec_items day.firsts ++ vec_items day.told)) x in
    record {
      firsts = vec_items day.firsts;
      told = vec_items day.told;
      looks = vec_items day.looks;
      end = end;
      day = ran;
      replied = all;
      everything = ap sources all ∙ everything b g (meaning_of b) s _ cs _ _ _ end ran;
      tells_tally = λ es before o. tells_tally (meaning_of b) s _ _ _ _ _ _ end ran es before o;
      audited = subst (λ (z : Stage). IsSomeAnd o.audit (Shows b z (vec_items day.looks))) (sym at) a;
      leaves = l ∙ ap Some is;
    }
