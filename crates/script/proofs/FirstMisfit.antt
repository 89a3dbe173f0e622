-- What is found not to fit in a line is its first misfit, by the grammar.
use Rattle.std.proofs.Common.{◌≡◌, ℕ, Bool, true, false, not, ◌&&◌, ◌↔◌, List, [], ◌∷◌, ◌++◌, map, Option, Some, None, is_some, codes, refl, sym, ap, ap₂, ◌∙◌, true≢false}
use Rattle.std.specs.Prelude.{if◌then◌else◌}
use Rattle.std.specs.List.{list_all}
use Rattle.std.specs.Option.{option_or}
use Rattle.registry.specs.declared.book_name.BookName.{BookName}
use Rattle.registry.specs.BookName.{meaning_of}
use Rattle.books.specs.Words.{procedure_of_word}
use Rattle.lexer.specs.Pieces.{printable, words, uncommented}
use Rattle.script.specs.declared.slot.Slot.{Slot}
use Rattle.script.specs.declared.slot.Slot.TheVariants as slot
use Rattle.script.specs.FaultValue.{MisfitValue, NoTextMisfit, WordMisfit, TooShortMisfit}
use Rattle.script.specs.Grammar.{line_said}
use Rattle.script.specs.Misfit.{SlotsValue, InOrder, Repeated, slot_takes, slots_behind, misfit_in, misfit_by, misfit_of, Begins, FirstMisfit}
use Rattle.script.proofs.SlotsSaid.{fit, fit_form, line-some}

-- a word that a slot takes
abbrev filler : Slot → List ℕ
filler slot.Name = codes "0"
filler slot.Number = codes "0"
filler slot.Procedure = codes "0"
filler slot.Book = codes "ledger"
filler slot.Cut = codes "0"

or-some : (o : Option ℕ) → is_some (option_or o (Some 0)) ≡ true
or-some None = refl
or-some (Some n) = refl

filler-taken : (book : Option BookName) (s : Slot) → slot_takes book s (filler s) ≡ true
filler-taken book slot.Name = refl
filler-taken book slot.Number = refl
filler-taken None slot.Procedure = refl
filler-taken (Some b) slot.Procedure = or-some (procedure_of_word (meaning_of b).words (codes "0"))
filler-taken book slot.Book = refl
filler-taken book slot.Cut = refl

-- words that fit slots to the end
abbrev fillers : SlotsValue → List (List ℕ)
fillers (InOrder ss) = map filler ss
fillers (Repeated s) = []

in-order-end : (book : Option BookName) (ss : List Slot) → fit book (InOrder ss) (map filler ss) ≡ true
in-order-end book [] = refl
in-order-end book (s ∷ ss) = ap₂ (λ a b. a && b) (filler-taken book s) (in-order-end book ss)

can-end : (book : Option BookName) (ss : SlotsValue) → fit book ss (fillers ss) ≡ true
can-end book (InOrder ss) = in-order-end book ss
can-end book (Repeated s) = refl

-- some words go on from these so that all fit
abbrev GoesOn : Option BookName → SlotsValue → List (List ℕ) → Type 0
GoesOn book ss ws = (more : List (List ℕ)) × (fit book ss (ws ++ more) ≡ true)

-- a misfit among words, where Goes says which words some words go on from
abbrev Misfits : (List (List ℕ) → Type 0) → List (List ℕ) → MisfitValue → Type 0
Misfits Goes ws NoTextMisfit = ⊥
Misfits Goes ws (WordMisfit w) =
    (before : List (List ℕ)) × (after : List (List ℕ)) × (ws ≡ before ++ w ∷ after)
    × Goes before × (Goes (before ++ w ∷ []) → ⊥)
Misfits Goes ws TooShortMisfit = Goes ws

-- the same misfit with a word before it that changes nothing
behind : (Goes GoesBehind : List (List ℕ) → Type 0) (w : List ℕ) (ws : List (List ℕ)) (m : MisfitValue)
    → ((vs : List (List ℕ)) → GoesBehind vs ↔ Goes (w ∷ vs))
    → Misfits GoesBehind ws m → Misfits Goes (w ∷ ws) m
behind Goes GoesBehind w ws NoTextMisfit same h = h
behind Goes GoesBehind w ws (WordMisfit v) same h =
    let (before, after, whole, begins, ends) = h in (
      w ∷ before,
      after,
      ap (λ l. w ∷ l) whole,
      (same before).0 begins,
      λ more. ends ((same (before ++ v ∷ [])).1 more),
    )
behind Goes GoesBehind w ws TooShortMisfit same h = (same ws).0 h

-- a misfit among words that are to fit slots
abbrev SlotsMisfit : Option BookName → SlotsValue → List (List ℕ) → MisfitValue → Type 0
SlotsMisfit book ss = Misfits (GoesOn book ss)

-- the first word does not fit
refused : (book : Option BookName) (ss : SlotsValue) (w : List ℕ) (ws : List (List ℕ))
    → ((more : List (List ℕ)) → fit book ss (w ∷ more) ≡ false)
    → SlotsMisfit book ss (w ∷ ws) (WordMisfit w)
refused book ss w ws unfit = ([], ws, refl, (fillers ss, can-end book ss), λ h. true≢false (sym h.1 ∙ unfit h.0))

-- a word at its slot
at-slot : (book : Option BookName) (ss rest : SlotsValue) (w : List ℕ) (ws : List (List ℕ)) (takes : Bool) (m : MisfitValue)
    → ((more : List (List ℕ)) → fit book ss (w ∷ more) ≡ (takes && fit book rest more))
    → SlotsMisfit book rest ws m → SlotsMisfit book ss (w ∷ ws) (if takes then m else WordMisfit w)
at-slot book ss rest w ws true m steps h =
    behind (GoesOn book ss) (GoesOn book rest) w ws m (λ vs. (λ g. (g.0, steps (vs ++ g.0) ∙ g.1), λ g. (g.0, sym (steps (vs ++ g.0)) ∙ g.1))) h
at-slot book ss rest w ws false m steps h = refused book ss w ws steps

first-word : (book : Option BookName) (w : List ℕ) (ws : List (List ℕ)) (ss : SlotsValue)
    → ((rest : SlotsValue) → SlotsMisfit book rest ws (misfit_in book rest ws))
    → SlotsMisfit book ss (w ∷ ws) (misfit_in book ss (w ∷ ws))
first-word book w ws (InOrder []) h = refused book (InOrder []) w ws (λ more. refl)
first-word book w ws (InOrder (s ∷ ss)) h =
    at-slot book (InOrder (s ∷ ss)) (InOrder ss) w ws (slot_takes book s w) _ (λ more. refl) (h (InOrder ss))
first-word book w ws (Repeated s) h =
    at-slot book (Repeated s) (Repeated s) w ws (slot_takes book s w) _ (λ more. refl) (h (Repeated s))

in-slots : (book : Option BookName) (ws : List (List ℕ)) (ss : SlotsValue) → SlotsMisfit book ss ws (misfit_in book ss ws)
in-slots book [] ss = (fillers ss, can-end book ss)
in-slots book (w ∷ ws) ss = first-word book w ws ss (λ rest. in-slots book ws rest)

-- a line of some form, or of none
by-form : (book : Option BookName) (name : List ℕ) (ws : List (List ℕ)) (form : Option SlotsValue)
    → ((more : List (List ℕ)) → is_some (line_said book (name ∷ more)) ≡ fit_form book form more)
    → Misfits (Begins book) (name ∷ ws) (elim form [ None ↦ WordMisfit name | Some ss ↦ misfit_in book ss ws ])
by-form book name ws None said = ([], ws, refl, ([], refl), λ h. true≢false (sym h.1 ∙ said h.0))
by-form book name ws (Some ss) said =
    behind (Begins book) (GoesOn book ss) name ws _ (λ vs. (λ g. (g.0, said (vs ++ g.0) ∙ g.1), λ g. (g.0, sym (said (vs ++ g.0)) ∙ g.1))) (in-slots book ws ss)

by-words : (book : Option BookName) (ws : List (List ℕ)) → Misfits (Begins book) ws (misfit_by book ws)
by-words book [] = ([], refl)
by-words book (name ∷ ws) = by-form book name ws (slots_behind book name) (line-some book name)

of-text : (book : Option BookName) (line : List ℕ) (m : MisfitValue) → list_all printable line ≡ true
    → Misfits (Begins book) (words (uncommented line)) m → FirstMisfit book line m
of-text book line NoTextMisfit text h = absurd h
of-text book line (WordMisfit w) text h = (text, h)
of-text book line TooShortMisfit text h = (text, h)

of-line : (book : Option BookName) (line : List ℕ) (text : Bool) → list_all printable line ≡ text
    → FirstMisfit book line (if not text then NoTextMisfit else misfit_by book (words (uncommented line)))
of-line book line false e = e
of-line book line true e = of-text book line _ e (by-words book (words (uncommented line)))

pub first_misfit : (book : Option BookName) (line : List ℕ) → FirstMisfit book line (misfit_of book line)
first_misfit book line = of-line book line (list_all printable line) refl
