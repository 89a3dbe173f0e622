-- Every request of a session is answered, and so every command of a script is.
use Rattle.std.proofs.Common.{◌≡◌, ℕ, ◌+◌, List, [], ◌∷◌, ◌++◌, map, length, None, Ok, Err, Result, refl, sym, ap, ◌∙◌, arith}
use Rattle.std.specs.List.{flat_map}
use Rattle.std.proofs.lemmas.List.{length-append}
use Rattle.books.specs.Meaning.{Meaning}
use Rattle.registry.specs.declared.book_name.BookName.{BookName}
use Rattle.script.specs.Reading.{SetupValue, NumberedValue}
use Rattle.monitor.specs.MonitorState.{MonitorState}
use Rattle.desk.specs.declared.told.Told.{Told}
use Rattle.desk.specs.Serving.{RequestValue, Desk, Session, none_served, one_served}
use Rattle.day.specs.declared.start.Start.{Start}
use Rattle.day.specs.declared.start.Start.TheVariants as start
use Rattle.day.specs.declared.source.Source.{Source}
use Rattle.day.specs.declared.source.Source.TheVariants.{Format, Attach, Line}
use Rattle.day.specs.declared.said.Said.{Said}
use Rattle.day.specs.declared.reply.Reply.{Reply}
use Rattle.day.specs.DayRun.{DayRan}
use Rattle.day.specs.Plan.{planned, asks, said_at_once, first_requests, requests_of, expected_of, all_expected}
use Rattle.day.specs.Replies.{replies_of}
use Rattle.day.specs.Outcome.{all_sources}

-- a session has an answer for each request
pub as_many : (m : Meaning) (w : Desk) (cs : List RequestValue) (rs : List Told) (v : Desk) → Session m w cs rs v → length rs ≡ length cs
as_many m w _ _ _ none_served = refl
as_many m w _ _ _ (one_served {qs} {rs} {u} {v} q a h k) =
    length-append rs (a ∷ []) ∙ ap (λ n. n + 1) (as_many m w qs rs u h) ∙ sym (length-append qs (q ∷ []))

abbrev pub sources : List Reply → List Source
sources rs = map (λ (r : Reply). r.source) rs

module _ (b : BookName) (g : SetupValue) where
  abbrev pub asked : List NumberedValue → List RequestValue
  asked cs = flat_map (λ (c : NumberedValue). asks (planned g c.asked)) cs

  -- one line more, by its plan
  one_line :
      (k : ℕ) (p : Result RequestValue Said) (cs : List NumberedValue) (answers : List Told)
      → ((later : List Told) → length later ≡ length (asked cs) → sources (replies_of b (map (expected_of g) cs) later) ≡ map (λ (c : NumberedValue). Line c.line) cs)
      → length answers ≡ length (asks p ++ asked cs)
      → sources (replies_of b (record { source = Line k; said = said_at_once p } ∷ map (expected_of g) cs) answers) ≡ Line k ∷ map (λ (c : NumberedValue). Line c.line) cs
  one_line k (Err s) cs answers rest e = ap (λ z. Line k ∷ z) (rest answers e)
  one_line k (Ok q) cs [] rest e = absurd (omega arith)
  one_line k (Ok q) cs (a ∷ later) rest e =
      let fewer : length later ≡ length (asked cs) = omega arith in
      ap (λ z. Line k ∷ z) (rest later fewer)

  -- every command's line is replied to
  every_line :
      (cs : List NumberedValue) (answers : List Told) → length answers ≡ length (asked cs)
      → sources (replies_of b (map (expected_of g) cs) answers) ≡ map (λ (c : NumberedValue). Line c.line) cs
  every_line [] answers e = refl
  every_line (c ∷ cs) answers e = one_line c.line (planned g c.asked) cs answers (every_line cs) e

  -- from the attach on
  attached :
      (cs : List NumberedValue) (answers : List Told) → length answers ≡ 1 + length (asked cs)
      → sources (replies_of b (record { source = Attach; said = None } ∷ map (expected_of g) cs) answers) ≡ Attach ∷ map (λ (c : NumberedValue). Line c.line) cs
  attached cs [] e = absurd (omega arith)
  attached cs (b ∷ later) e =
      let fewer : length later ≡ length (asked cs) = omega arith in
      ap (λ z. Attach ∷ z) (every_line cs later fewer)

  replied :
      (s : Start) (cs : List NumberedValue) (firsts answers : List Told) → length firsts ≡ length (first_requests s g) → length answers ≡ 1 + length (asked cs)
      → sources (replies_of b (all_expected s g cs) (firsts ++ answers)) ≡ all_sources s cs
  replied start.Format cs [] answers e f = absurd (omega arith)
  replied start.Format cs (a ∷ (b ∷ more)) answers e f = absurd (omega arith)
  replied start.Format cs (a ∷ []) answers e f = ap (λ z. Format ∷ z) (attached cs answers f)
  replied start.Attach cs (a ∷ more) answers e f = absurd (omega arith)
  replied start.Attach cs [] answers e f = attached cs answers f

  -- of a day that was run
  pub everything :
      (m : Meaning) (s : Start) (bs : List (List ℕ)) (cs : List NumberedValue) (firsts answers looks : List Told) (end : MonitorState)
      → DayRan m s bs g (requests_of g cs) firsts answers looks end
      → sources (replies_of b (all_expected s g cs) (firsts ++ answers)) ≡ all_sources s cs
  everything m s bs cs firsts answers looks end k =
      replied s cs firsts answers (as_many m _ _ firsts _ k.starts.session) (as_many m _ _ answers _ k.day.session ∙ omega arith)
