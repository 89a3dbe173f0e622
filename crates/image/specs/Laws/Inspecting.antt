-- What the crates above prove with: an inspection that accepted.
use Rattle.std.specs.Prelude.{◌≡◌, ℕ, true, Ok}
use Rattle.std.proofs.Common.{sym, ◌∙◌, inl, inr}
use Rattle.std.proofs.lemmas.Bool.{cases_Bool}
use Rattle.lists.specs.Answers.{not_ok, same_ok}
use Rattle.books.specs.Meaning.{Meaning}
use Rattle.journals.specs.JournalState.{JournalState, size, blocks}
use Rattle.journals.specs.Outcomes.{TurnedOn, Finished}
use Rattle.image.specs.Laws.{accepts_exactly_lawful}
use Rattle.image.specs.Layout.{lawful_size}
use Rattle.image.specs.Lawful.{LawfulImage}
use Rattle.image.specs.Inspects.{Inspects, Inspected, WentOn, finishing_cut, commit_unlawful, judged, stays_off, powered_on}

-- what the power call left was a lawful image, which is finished now; and the answer is its count
pub record Accepted (m : Meaning) (d : JournalState) (n : ℕ) (e : JournalState) : Type 0 where
  pub fits : lawful_size (size d) ≡ true
  pub left : JournalState
  pub turned_on : TurnedOn d left
  pub image : LawfulImage m (blocks left)
  pub done : Finished left e
  pub count : n ≡ image.lawful_home.head.count

module _ (m : Meaning) (d : JournalState) (n : ℕ) (e : JournalState) (fits : lawful_size (size d) ≡ true) where
  went_on : (p : JournalState) → TurnedOn d p → WentOn m p (Ok n) e → Accepted m d n e
  went_on p on (finishing_cut a l c) = not_ok n _ a
  went_on p on (commit_unlawful a u s) =
      absurd (u (accepts_exactly_lawful.accepted m (blocks p) n (sym a)).lawful_commit)
  went_on p on (judged a l f) =
      let image : LawfulImage m (blocks p) = accepts_exactly_lawful.accepted m (blocks p) n (sym a) in
      record {
        fits = fits;
        left = p;
        turned_on = on;
        image = image;
        done = f;
        count = same_ok n image.lawful_home.head.count (a ∙ accepts_exactly_lawful.accepts m (blocks p) image);
      }

  inspected : Inspected m d (Ok n) e → Accepted m d n e
  inspected (stays_off a s) = not_ok n _ a
  inspected (powered_on o) = went_on o.left o.turned_on o.went_on

pub accepted : (m : Meaning) (d : JournalState) (n : ℕ) (e : JournalState) → Inspects m d (Ok n) e → Accepted m d n e
accepted m d n e i =
    elim (cases_Bool (lawful_size (size d))) [
      | inr small ↦ not_ok n _ (i.refused_size small).0
      | inl fits ↦ inspected m d n e fits (i.met fits)
    ]
