-- A format that passed its tests: what it leaves.
use Rattle.std.proofs.Common.{◌≡◌, ◌≤◌, ℕ, true, false, List, Ok, Err, Result, refl, sym, ap, ◌∙◌}
use Rattle.std.proofs.Common.{subst, arith}
use Rattle.std.specs.Result.{MatchResult, is_ok}
use Rattle.refusals.specs.declared.places.PowerPlace.TheVariants.{Starting}
use Rattle.refusals.specs.declared.refusal.Refusal.{Refusal}
use Rattle.refusals.specs.Refused.{lost_at}
use Rattle.books.specs.Meaning.{Meaning}
use Rattle.journals.specs.declared.faults.JournalFault.{JournalFault}
use Rattle.journals.specs.Initializing.{Initialized, CutInitializing, Initializes}
use Rattle.journals.specs.JournalState.{JournalState, size, IsCertain}
use Rattle.journals.specs.Outcomes.{TurnedOn, PowersOn}
use Rattle.layout.specs.ReadBack.{CodesFit}
use Rattle.image.specs.Laws.{size_low}
use Rattle.image.specs.Layout.{lawful_size}
use Rattle.monitor.specs.declared.stage.Stage.{Stage}
use Rattle.monitor.specs.declared.stage.Stage.TheVariants.{Open, Dark}
use Rattle.monitor.specs.MonitorState.{MonitorState, monitor_with, size_of, Steady}
use Rattle.monitor.specs.Starting.{first_home, formattable, FormatDone, FormatLost, FormatCut}
use Rattle.monitor.specs.Starting.{in_powering, in_initializing, Starts, Formats}
use Rattle.monitor.specs.Starting.{InitializesPowered}
use Rattle.monitor.proofs.LeavesSteady.{initialized_steady}

-- an answer that says whether it was done
at_ok :
    {E : Type 0} (P : Unit {0} → Type 0) (Q : E → Type 0) (r : Result (Unit {0}) E)
    → is_ok r ≡ true → MatchResult r P Q → P tt
at_ok P Q (Ok x) e m = m
at_ok P Q (Err x) e m = cc

at_err :
    {E : Type 0} (P : Unit {0} → Type 0) (Q : E → Type 0) (r : Result (Unit {0}) E)
    → is_ok r ≡ false → MatchResult r P Q → (x : E) × Q x
at_err P Q (Ok x) e m = cc
at_err P Q (Err x) e m = (x, m)

-- power was turned on, and the blocks were initialized
pub record Laid (xs : List (List ℕ)) (d e : JournalState) : Type 0 where
  pub left : JournalState
  pub turned_on : TurnedOn d left
  pub initialized : Initialized xs left e

-- power was lost on the way; where a power call is certain, while the blocks were initialized
pub record Lost (xs : List (List ℕ)) (d e : JournalState) : Type 0 where
  pub cut : FormatCut xs d e
  pub powered : IsCertain d → (left : JournalState) × TurnedOn d left × CutInitializing xs left e

-- a power call on a drive of lawful size, with its answer r and what it leaves
module _
    (xs home : List (List ℕ)) (named : home ≡ xs) (d p : JournalState)
    (lawful : lawful_size (size d) ≡ true) (r : Result (Unit {0}) JournalFault)
    (powers : PowersOn d r p)
  where
    pub lost_powering : is_ok r ≡ false → (IsCertain d → is_ok r ≡ true) → Lost xs d p
    lost_powering off certain =
        record {
          cut = in_powering (at_err _ _ r off powers).1.1;
          powered = λ c. (let done = certain c in cc);
        }

    -- the blocks were initialized then, with the answer i
    module _
        (on : is_ok r ≡ true) (e : JournalState) (i : Result (Unit {0}) JournalFault)
        (initializes : Initializes p home i e)
      where
        turned_on : TurnedOn d p
        turned_on = at_ok _ _ r on powers

        wide : 34 ≤ size p
        wide = omega (arith, size_low (size d) lawful, turned_on.same_size)

        pub laid : is_ok i ≡ true → Laid xs d e
        laid done =
            let as_home : Initialized home p e =
            at_ok _ _ i done (initializes.met turned_on.on wide) in
            record {
              left = p;
              turned_on = turned_on;
              initialized = subst (λ (z : List (List ℕ)). Initialized z p e) named as_home;
            }

        pub lost_initializing : is_ok i ≡ false → Lost xs d e
        lost_initializing off =
            let as_home : CutInitializing home p e =
            (at_err _ _ i off (initializes.met turned_on.on wide)).1.1 in
            let cut = subst (λ (z : List (List ℕ)). CutInitializing z p e) named as_home in
            record { cut = in_initializing turned_on cut; powered = λ c. (p, turned_on, cut) }

-- what was initialized is steady
pub laid_steady :
    (m : Meaning) (house : ℕ) (roll opening : List ℕ) (d e : JournalState)
    → lawful_size (size d) ≡ true → Laid (first_home m house roll opening) d e → Steady e
laid_steady m house roll opening d e lawful l =
    initialized_steady m house roll opening l.left e l.initialized
    (ap lawful_size l.turned_on.same_size ∙ lawful)

-- a format of the monitor s, whose journal's state is d, that passed its tests
module _
    (m : Meaning) (house : ℕ) (roll opening : List ℕ) (fits : CodesFit opening)
    (s : MonitorState) (st : Stage) (d : JournalState) (is : monitor_with st d ≡ s)
    (tests : Ok tt ≡ formattable m (size d) house roll opening) (e : JournalState)
  where
    abbrev xs : List (List ℕ)
    xs = first_home m house roll opening

    starts :
        (a : Result ℕ Refusal) (t : MonitorState)
        → MatchResult a (λ k. (k ≡ 0) × FormatDone xs s t) (λ f. FormatLost xs s f t)
        → Formats m s house roll opening a t
    starts a t w =
        let passed : Ok tt ≡ formattable m (size_of s) house roll opening =
        tests ∙ ap (λ (z : MonitorState). formattable m (size_of z) house roll opening) is in
        record {
          fits = fits;
          starts = subst (λ (z : Result (Unit {0}) Refusal). Starts xs z s a t) passed w;
        }

    -- it was done
    module _ (l : Laid xs d e) where
      pub formats_done : Formats m s house roll opening (Ok 0) (monitor_with Open e)
      formats_done =
          let done : FormatDone xs (monitor_with st d) (monitor_with Open e) =
          record {
            stage = refl;
            left = l.left;
            turned_on = l.turned_on;
            initialized = l.initialized;
          } in
          starts (Ok 0) (monitor_with Open e)
          (refl, subst (λ (z : MonitorState). FormatDone xs z (monitor_with Open e)) is done)

      pub powered_done : InitializesPowered xs s (Ok 0) (monitor_with Open e)
      powered_done =
          subst (λ (z : MonitorState). InitializesPowered xs z (Ok 0) (monitor_with Open e)) is
          (record { left = l.left; turned_on = l.turned_on; lays = l.initialized })

    -- power was lost
    module _ (l : Lost xs d e) (a : Refusal) (answer : a ≡ lost_at Starting) where
      pub formats_lost : Formats m s house roll opening (Err a) (monitor_with Dark e)
      formats_lost =
          let lost : FormatLost xs (monitor_with st d) a (monitor_with Dark e) =
          record { answer = answer; stage = refl; cut = l.cut } in
          starts (Err a) (monitor_with Dark e)
          (subst (λ (z : MonitorState). FormatLost xs z a (monitor_with Dark e)) is lost)

      pub powered_lost :
          IsCertain s.disk → InitializesPowered xs s (Err a) (monitor_with Dark e)
      powered_lost c =
          let w = l.powered (subst (λ (z : MonitorState). IsCertain z.disk) (sym is) c) in
          subst (λ (z : MonitorState). InitializesPowered xs z (Err a) (monitor_with Dark e)) is
          (record { left = w.0; turned_on = w.1; lays = w.2 })

-- the tests were made of the size that the drive has
pub tested :
    (m : Meaning) (house : ℕ) (roll opening : List ℕ) (n : ℕ) (d : JournalState) → n ≡ size d
    → Ok tt ≡ formattable m n house roll opening → Ok tt ≡ formattable m (size d) house roll opening
tested m house roll opening n d is p = p ∙ ap (λ (z : ℕ). formattable m z house roll opening) is
