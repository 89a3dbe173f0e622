-- What does not fit in a bad line: the first word with which no form goes on.
use Rattle.std.specs.Prelude.{◌≡◌, ℕ, Bool, true, false, not, List, [], ◌∷◌, ◌++◌, Some, None, codes, Option, is_some, IsSome, if◌then◌else◌}
use Rattle.std.specs.List.{list_all}
use Rattle.std.specs.Str.{bytes_eq}
use Rattle.registry.specs.declared.book_name.BookName.{BookName}
use Rattle.registry.specs.BookName.{book_named}
use Rattle.lexer.specs.Pieces.{printable, words, uncommented}
use Rattle.lexer.specs.Numerals.{number_typed}
use Rattle.script.specs.declared.slot.Slot.{Slot}
use Rattle.script.specs.declared.slot.Slot.TheVariants as slot
use Rattle.script.specs.declared.slots.Slots.{Slots}
use Rattle.script.specs.declared.slots.Slots.TheVariants as slots
use Rattle.script.specs.FaultValue.{MisfitValue, NoTextMisfit, WordMisfit, TooShortMisfit}
use Rattle.script.specs.Grammar.{typed_procedure, cut_typed, line_said}

-- whether a word can stand in a slot, under the book that is chosen above the line; where none is,
-- a procedure is typed by its number
abbrev pub slot_takes : Option BookName → Slot → List ℕ → Bool
slot_takes book slot.Name w = true
slot_takes book slot.Number w = is_some (number_typed w)
slot_takes None slot.Procedure w = is_some (number_typed w)
slot_takes (Some b) slot.Procedure w = is_some (typed_procedure b w)
slot_takes book slot.Book w = is_some (book_named w)
slot_takes book slot.Cut w = is_some (cut_typed w)

-- the slots of a form behind its first word
pub data SlotsValue : Type 0 where
  -- one word for each slot
  InOrder : List Slot → SlotsValue
  -- any number of words for one slot
  Repeated : Slot → SlotsValue

-- the slots of the code
abbrev pub slots_value : Slots → SlotsValue
slots_value (slots.InOrder ss) = InOrder ss.now
slots_value (slots.Repeated s) = Repeated s

-- a slot, and the slots behind it
abbrev pub slot_and_rest : Slot × Slots → Slot × SlotsValue
slot_and_rest p = (p.0, slots_value p.1)

-- an amount on two items, by a procedure
abbrev pub note_slots : List Slot
note_slots = slot.Procedure ∷ (slot.Number ∷ (slot.Number ∷ (slot.Number ∷ [])))

-- the slots of a command by its name
abbrev pub command_slots : List ℕ → Option SlotsValue
command_slots name =
    if bytes_eq name (codes "note") then Some (InOrder note_slots)
    else if bytes_eq name (codes "enter")
    then Some (InOrder (slot.Name ∷ (slot.Number ∷ (slot.Name ∷ note_slots))))
    else if bytes_eq name (codes "countersign")
    then Some (InOrder (slot.Name ∷ (slot.Number ∷ (slot.Name ∷ []))))
    else if bytes_eq name (codes "withdraw") then Some (InOrder (slot.Name ∷ []))
    else if bytes_eq name (codes "certify")
    then Some (InOrder (slot.Name ∷ (slot.Number ∷ (slot.Number ∷ (slot.Procedure
    ∷ (slot.Number ∷ (slot.Number ∷ [])))))))
    else if bytes_eq name (codes "strike") then Some (InOrder (slot.Name ∷ (slot.Number ∷ [])))
    else if bytes_eq name (codes "item") then Some (InOrder (slot.Number ∷ []))
    else if bytes_eq name (codes "record") then Some (InOrder (slot.Number ∷ []))
    else if bytes_eq name (codes "format") then Some (InOrder (slot.Number ∷ []))
    else if bytes_eq name (codes "attach") then Some (InOrder [])
    else None

-- a command needs a book that was chosen above it
abbrev pub asked_slots : Option BookName → List ℕ → Option SlotsValue
asked_slots None name = None
asked_slots (Some book) name = command_slots name

-- the slots of the form whose first word this is
abbrev pub slots_behind : Option BookName → List ℕ → Option SlotsValue
slots_behind chosen name =
    if bytes_eq name (codes "book") then Some (InOrder (slot.Book ∷ []))
    else if bytes_eq name (codes "house") then Some (InOrder (slot.Number ∷ []))
    else if bytes_eq name (codes "roll") then Some (Repeated slot.Name)
    else if bytes_eq name (codes "opening") then Some (Repeated slot.Number)
    else if bytes_eq name (codes "cuts") then Some (Repeated slot.Cut)
    else asked_slots chosen name

-- the slot of the next word, and the slots behind it; none where no word may follow
abbrev pub next_slot : SlotsValue → Option (Slot × SlotsValue)
next_slot (InOrder []) = None
next_slot (InOrder (s ∷ ss)) = Some (s, InOrder ss)
next_slot (Repeated s) = Some (s, Repeated s)

-- the first word that its slot does not take, or that no slot is left for
abbrev pub misfit_in : Option BookName → SlotsValue → List (List ℕ) → MisfitValue
misfit_in book ss [] = TooShortMisfit
misfit_in book ss (w ∷ ws) =
    elim (next_slot ss) [
      | None ↦ WordMisfit w
      | Some n ↦
          if slot_takes book n.0 w then misfit_in book n.1 ws else WordMisfit w
    ]

-- what does not fit in a line by its words
abbrev pub misfit_by : Option BookName → List (List ℕ) → MisfitValue
misfit_by book [] = TooShortMisfit
misfit_by book (name ∷ ws) =
    elim (slots_behind book name) [
      | None ↦ WordMisfit name
      | Some ss ↦ misfit_in book ss ws
    ]

-- what does not fit in a line that no form fits, under the book that is chosen above it
abbrev pub misfit_of : Option BookName → List ℕ → MisfitValue
misfit_of book line =
    if not (list_all printable line) then NoTextMisfit
    else misfit_by book (words (uncommented line))

-- some good line begins with these words
abbrev pub Begins : Option BookName → List (List ℕ) → Type 0
Begins book ws = (more : List (List ℕ)) × IsSome (line_said book (ws ++ more))

-- what a misfit says of a line's words: the first word with which no good line goes on, or that
-- good lines begin with all of them
abbrev pub WordsMisfit : Option BookName → List (List ℕ) → MisfitValue → Type 0
WordsMisfit book ws NoTextMisfit = ⊥
WordsMisfit book ws (WordMisfit w) =
    (before : List (List ℕ)) × (after : List (List ℕ)) × (ws ≡ before ++ w ∷ after)
    × Begins book before × (Begins book (before ++ w ∷ []) → ⊥)
WordsMisfit book ws TooShortMisfit = Begins book ws

-- what a misfit says of a line, by the grammar alone: that a byte is no text, or what it says of
-- the words
abbrev pub FirstMisfit : Option BookName → List ℕ → MisfitValue → Type 0
FirstMisfit book line NoTextMisfit = list_all printable line ≡ false
FirstMisfit book line m =
    (list_all printable line ≡ true) × WordsMisfit book (words (uncommented line)) m
