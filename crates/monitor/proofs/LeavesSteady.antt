-- A drive that was just formatted, and one that attach accepted, are steady.
use Rattle.std.proofs.Common.{◌≡◌, ℕ, true, List, ◌++◌, drop, ap, ◌∙◌, arith}
use Rattle.books.specs.Meaning.{Meaning}
use Rattle.journals.specs.Initializing.{Initialized}
use Rattle.journals.specs.JournalState.{JournalState, size, home_of}
use Rattle.layout.specs.Laws.{fields_back}
use Rattle.layout.specs.declared.head.Head.{Head}
use Rattle.image.specs.Home.{count_on}
use Rattle.image.specs.Layout.{lawful_size}
use Rattle.image.specs.Laws.Inspecting.{Accepted}
use Rattle.updates.specs.Laws.{head_count}
use Rattle.monitor.specs.MonitorState.{Steady}
use Rattle.monitor.specs.Starting.{first_home}

-- its head counts no record
fresh_count :
    (m : Meaning) (house : ℕ) (roll opening : List ℕ) (rest : List (List ℕ))
    → count_on (first_home m house roll opening ++ rest) ≡ 0
fresh_count m house roll opening rest =
    head_count (record { house = house; kind = m.kind; count = 0 }) (omega arith)

pub initialized_steady :
    (m : Meaning) (house : ℕ) (roll opening : List ℕ) (d e : JournalState)
    → Initialized (first_home m house roll opening) d e → lawful_size (size d) ≡ true → Steady e
initialized_steady m house roll opening d e l f =
    let none : count_on (home_of e) ≡ 0 =
    ap count_on l.home_now ∙ fresh_count m house roll opening (drop 27 (home_of d)) in
    record {
      ready = l.ready;
      fits = ap lawful_size l.same_size ∙ f;
      found_room = omega (arith, none);
    }

-- what was accepted is steady
pub accepted_steady :
    (m : Meaning) (d : JournalState) (n : ℕ) (e : JournalState) → Accepted m d n e → Steady e
accepted_steady m d n e a =
    let l = a.image.lawful_home in
    let counts : count_on (home_of e) ≡ l.head.count =
    ap count_on a.done.home_now ∙ ap (λ (z : Head). z.count) (fields_back l.head _ l.head_stands) in
    record {
      ready = a.done.ready a.turned_on.settled;
      fits = ap lawful_size (a.done.same_size ∙ a.turned_on.same_size) ∙ a.fits;
      found_room = omega (arith, counts, l.found_room, a.done.same_size);
    }
