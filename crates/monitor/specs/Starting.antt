-- What format and attach make of a monitor: s is the monitor before, t after.
use Rattle.std.specs.Prelude.{◌≡◌, ℕ, ◌^◌, not, ◌&&◌, List, [], ◌∷◌, ◌++◌, length, replicate, Ok}
use Rattle.std.specs.Prelude.{Err, Result, MatchResult, ◌==◌, nat_le, nat_lt, if◌then◌else◌}
use Rattle.refusals.specs.declared.places.FormatPlace.{FormatPlace}
use Rattle.refusals.specs.declared.places.FormatPlace.TheVariants as at
use Rattle.refusals.specs.declared.places.PowerPlace.TheVariants as power
use Rattle.refusals.specs.declared.reason.Reason.TheVariants.{PowerLost, BadFormat, BadSize}
use Rattle.refusals.specs.declared.reason.Reason.TheVariants.{InvalidOpening}
use Rattle.refusals.specs.declared.refusal.Refusal.{Refusal}
use Rattle.refusals.specs.Table.{reason_number}
use Rattle.refusals.specs.Places.{format_place_number}
use Rattle.refusals.specs.Refused.{refused, lost_at}
use Rattle.books.specs.Meaning.{Meaning}
use Rattle.journals.specs.JournalState.{JournalState}
use Rattle.journals.specs.Outcomes.{TurnedOn, StaysOff}
use Rattle.journals.specs.Initializing.{Initialized, CutInitializing}
use Rattle.rights.specs.Covers.{free}
use Rattle.layout.specs.Head.{head_form}
use Rattle.layout.specs.Roll.{first_words, last_words}
use Rattle.layout.specs.ReadBack.{CodesFit}
use Rattle.image.specs.Home.{blocks_of_codes, blocks_of_rows}
use Rattle.image.specs.Layout.{lawful_size}
use Rattle.image.specs.Inspects.{Inspects}
use Rattle.monitor.specs.declared.stage.Stage.{Stage}
use Rattle.monitor.specs.declared.stage.Stage.TheVariants.{Shut, Open, Dark}
use Rattle.monitor.specs.MonitorState.{MonitorState, size_of, Refuses}

-- an argument of format that is at fault (16)
abbrev pub bad_format : FormatPlace → Result (Unit {0}) Refusal
bad_format place = refused BadFormat (format_place_number place)

-- format's tests: a house number that is not 0 and has four bytes (16, place 1), a roll of 128
-- bytes (2), an opening of 64 codes (3), a lawful size (17), a valid opening (18)
abbrev pub formattable : Meaning → ℕ → ℕ → List ℕ → List ℕ → Result (Unit {0}) Refusal
formattable m size house roll opening =
    if not (nat_le 1 house && nat_lt house (2 ^ 32)) then bad_format at.House
    else if not (length roll == 128) then bad_format at.Roll
    else if not (length opening == 64) then bad_format at.Opening
    else if not (lawful_size size) then refused BadSize size
    else if not (m.valid opening) then refused InvalidOpening 0
    else Ok tt

-- blocks 7 to 33 of a drive that was just formatted: the head, the opening as items and as opening
-- items, free rows, the roll
abbrev pub first_home : Meaning → ℕ → List ℕ → List ℕ → List (List ℕ)
first_home m house roll opening =
    head_form (record { house = house; kind = m.kind; count = 0 })
    ∷ (blocks_of_codes opening ++ (blocks_of_codes opening ++ (blocks_of_rows (replicate 32 free)
    ++ (first_words roll ∷ (last_words roll ∷ [])))))

-- power was turned on, and the blocks were initialized
pub record FormatDone (xs : List (List ℕ)) (s t : MonitorState) : Type 0 where
  pub stage : t.stage ≡ Open
  pub left : JournalState
  pub turned_on : TurnedOn s.disk left
  pub initialized : Initialized xs left t.disk

-- where power was lost: in the power call, or while the blocks were initialized
pub data FormatCut (xs : List (List ℕ)) (d e : JournalState) : Type 0 where
  in_powering : StaysOff d e → FormatCut xs d e
  in_initializing :
      {left : JournalState} → TurnedOn d left → CutInitializing xs left e → FormatCut xs d e

pub record FormatLost
    (xs : List (List ℕ)) (s : MonitorState) (e : Refusal) (t : MonitorState) : Type 0
  where
    pub answer : e ≡ lost_at power.Starting
    pub stage : t.stage ≡ Dark
    pub cut : FormatCut xs s.disk t.disk

-- power was turned on, and the blocks were initialized then, or power was lost on the way
pub record InitializesPowered
    (xs : List (List ℕ)) (s : MonitorState) (r : Result ℕ Refusal) (t : MonitorState) : Type 0
  where
    pub left : JournalState
    pub turned_on : TurnedOn s.disk left
    pub lays : MatchResult r (λ _. Initialized xs left t.disk) (λ _. CutInitializing xs left t.disk)

-- by the tests: refused, or begun
abbrev pub Starts :
    List (List ℕ) → Result (Unit {0}) Refusal → MonitorState → Result ℕ Refusal → MonitorState
    → Type 0
Starts xs (Err e) s r t = Refuses s e r t
Starts xs (Ok _) s r t = MatchResult r (λ n. (n ≡ 0) × FormatDone xs s t) (λ e. FormatLost xs s e t)

pub record Formats
    (m : Meaning) (s : MonitorState) (house : ℕ) (roll opening : List ℕ) (r : Result ℕ Refusal)
    (t : MonitorState) : Type 0
  where
    pub fits : CodesFit opening
    pub starts :
        Starts (first_home m house roll opening) (formattable m (size_of s) house roll opening)
        s r t

-- the stage that attach leaves: open if it accepts, dark if it lost power, else shut
abbrev pub stage_after : Result ℕ Refusal → Stage
stage_after (Ok n) = Open
stage_after (Err e) = if reason_number e.reason == reason_number PowerLost then Dark else Shut

-- attach: what an inspection makes of the drive, and the stage by its answer
pub record Attaches
    (m : Meaning) (s : MonitorState) (r : Result ℕ Refusal) (t : MonitorState) : Type 0
  where
    pub inspects : Inspects m s.disk r t.disk
    pub stage : t.stage ≡ stage_after r
