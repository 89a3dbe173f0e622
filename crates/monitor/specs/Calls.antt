-- What each call that changes the drive makes of a monitor: s is the monitor before, t after.
use Rattle.std.specs.Prelude.{◌≡◌, ℕ, ◌+◌, ◌^◌, ◌<◌, not, ◌&&◌, List, Ok, Err, Result, MatchResult}
use Rattle.std.specs.Prelude.{◌==◌, if◌then◌else◌}
use Rattle.refusals.specs.declared.reason.Reason.TheVariants.{Foreign, PowerLost}
use Rattle.refusals.specs.declared.refusal.Refusal.{Refusal}
use Rattle.refusals.specs.Refused.{refused, ◌>>◌}
use Rattle.books.specs.Meaning.{Meaning}
use Rattle.notes.specs.Notes.{IsNote}
use Rattle.changes.specs.declared.home.Home.{Home}
use Rattle.journals.specs.declared.cut_place.CutPlace.{CutPlace}
use Rattle.journals.specs.Reported.{place_number}
use Rattle.journals.specs.Outcomes.{DoneChange, CutChange}
use Rattle.records.specs.declared.record.Record.{Record}
use Rattle.records.specs.declared.record.Record.TheVariants.{Posting, Certification, Strike}
use Rattle.applying.specs.Applied.{posted}
use Rattle.applying.specs.declared.row_draft.RowDraft.{RowDraft}
use Rattle.applying.specs.Rows.{certified, struck}
use Rattle.image.specs.Home.{house_on, count_on, state_on}
use Rattle.monitor.specs.declared.slip_numbers.SlipNumbers.{SlipNumbers}
use Rattle.monitor.specs.declared.stage.Stage.TheVariants.{Open, Dark}
use Rattle.monitor.specs.Asking.{identified}
use Rattle.updates.specs.Update.{resulting_update}
use Rattle.monitor.specs.MonitorState.{MonitorState, home_of, room_of, Refuses}
use Rattle.monitor.specs.Slips.{posting_by}
use Rattle.monitor.specs.Stages.{may_work}

-- power was lost in a change, at a place of the journal's (7)
abbrev pub lost_in : CutPlace → Refusal
lost_in place = record { reason = PowerLost; place = place_number place }

-- a change that was made: the answer is the record count, and the change stands alone
pub record Acknowledged
    (homes : List Home) (s : MonitorState) (n : ℕ) (t : MonitorState) : Type 0
  where
    pub count : n ≡ count_on (home_of s) + 1
    pub stage : t.stage ≡ Open
    pub made : DoneChange homes s.disk t.disk

-- a change that lost power: the place says how far it had come, and the monitor is dark
pub record LostPower
    (homes : List Home) (s : MonitorState) (e : Refusal) (t : MonitorState) : Type 0
  where
    pub place : CutPlace
    pub answer : e ≡ lost_in place
    pub stage : t.stage ≡ Dark
    pub cut : CutChange place homes s.disk t.disk

-- a change that is to be made is acknowledged or loses power
abbrev pub MakesChange : List Home → MonitorState → Result ℕ Refusal → MonitorState → Type 0
MakesChange homes s r t =
    MatchResult r (λ n. Acknowledged homes s n t) (λ e. LostPower homes s e t)

-- the same, where there is one to be made; where there is none, the call is refused
abbrev pub ChangesOrRefuses :
    Result (List Home) Refusal → MonitorState → Result ℕ Refusal → MonitorState → Type 0
ChangesOrRefuses (Ok homes) s r t = MakesChange homes s r t
ChangesOrRefuses (Err e) s r t = Refuses s e r t

-- the slip is this book's and this house's (10)
abbrev pub own_slip : Meaning → ℕ → SlipNumbers → Result (Unit {0}) Refusal
own_slip m house slip =
    if not (slip.numbers.kind == m.kind && slip.house == house) then refused Foreign slip.house
    else Ok tt

-- the record of a slip that a user countersigns
abbrev pub posting_record : SlipNumbers → ℕ → Record
posting_record slip user = Posting (posting_by slip user)

-- countersign: the slip is this house's (10), the word is the user's (8), and then the tests of a
-- posting by the rows that stand now (11, 9, 12, 13, 14, 15)
abbrev pub countersigned :
    Meaning → MonitorState → ℕ → List ℕ → SlipNumbers → Result (List Home) Refusal
countersigned m s user word slip = do
  may_work s.stage
  own_slip m (house_on (home_of s)) slip
  identified (home_of s) user word
  resulting_update (home_of s) (posting_record slip user)
      (posted m (room_of s) (state_on (home_of s)) (posting_by slip user))

pub record Countersigns
    (m : Meaning) (s : MonitorState) (user : ℕ) (word : List ℕ) (slip : SlipNumbers)
    (r : Result ℕ Refusal) (t : MonitorState) : Type 0
  where
    pub note : IsNote slip.numbers
    pub changes : ChangesOrRefuses (countersigned m s user word slip) s r t

-- the record of a certification
abbrev pub certification_record : RowDraft → Record
certification_record d =
    Certification (record {
      user = d.user;
      procedure = d.procedure;
      role = d.role;
      row = d.row;
      mask = d.mask;
    })

-- certify: the custodian's word (8), and then the tests of a certification (23, 24, 13)
abbrev pub certifying : Meaning → MonitorState → List ℕ → RowDraft → Result (List Home) Refusal
certifying m s word d = do
  may_work s.stage
  identified (home_of s) 0 word
  resulting_update (home_of s) (certification_record d)
      (certified m (room_of s) (state_on (home_of s)) d)

pub record Certifies
    (m : Meaning) (s : MonitorState) (word : List ℕ) (d : RowDraft) (r : Result ℕ Refusal)
    (t : MonitorState) : Type 0
  where
    pub fits : d.mask < 2 ^ 64
    pub changes : ChangesOrRefuses (certifying m s word d) s r t

-- strike: the custodian's word (8), and then the tests of a strike (23, 24, 13)
abbrev pub striking : MonitorState → List ℕ → ℕ → Result (List Home) Refusal
striking s word row = do
  may_work s.stage
  identified (home_of s) 0 word
  resulting_update (home_of s) (Strike row) (struck (room_of s) (state_on (home_of s)) row)

abbrev pub Strikes : MonitorState → List ℕ → ℕ → Result ℕ Refusal → MonitorState → Type 0
Strikes s word row r t = ChangesOrRefuses (striking s word row) s r t
