-- A monitor, by its stage and the state of its journal.
use Rattle.std.specs.Prelude.{◌≡◌, ℕ, ◌≤◌, true, List, Err, Result}
use Rattle.refusals.specs.declared.refusal.Refusal.{Refusal}
use Rattle.journals.specs.JournalState as journal
use Rattle.image.specs.Home.{count_on}
use Rattle.image.specs.Layout.{lawful_size, room}
use Rattle.monitor.specs.declared.stage.Stage.{Stage}
use Rattle.monitor.specs.declared.stage.Stage.TheVariants.{Open}

pub record MonitorState : Type 0 where
  pub stage : Stage
  pub disk : journal.JournalState

abbrev pub monitor_with : Stage → journal.JournalState → MonitorState
monitor_with s d = record { stage = s; disk = d }

-- how many blocks there are, and what stands at home
abbrev pub size_of : MonitorState → ℕ
size_of s = journal.size s.disk

abbrev pub home_of : MonitorState → List (List ℕ)
home_of s = journal.home_of s.disk

-- so many records find room
abbrev pub room_of : MonitorState → ℕ
room_of s = room (size_of s)

-- what an open monitor stands on: a drive of lawful size, with power, nothing in flight and nothing
-- to finish, and a head that counts no more records than there is room for
pub record Steady (d : journal.JournalState) : Type 0 where
  pub ready : journal.Ready d
  pub fits : lawful_size (journal.size d) ≡ true
  pub found_room : count_on (journal.home_of d) ≤ room (journal.size d)

-- an open monitor, by the state d of its journal
pub record IsOpenOn (s : MonitorState) (d : journal.JournalState) : Type 0 where
  pub stage : s.stage ≡ Open
  pub same : d ≡ s.disk
  pub steady : Steady d

-- a call that is refused changes nothing
pub record Refuses
    {A : Type 0} (s : MonitorState) (e : Refusal) (r : Result A Refusal) (t : MonitorState) : Type 0
  where
    pub answer : r ≡ Err e
    pub same : t ≡ s
