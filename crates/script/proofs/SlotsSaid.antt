-- A line is good exactly where its words fit the slots of its form.
use Rattle.std.proofs.Common.{◌≡◌, ℕ, Bool, true, false, ◌&&◌, List, [], ◌∷◌, Option, Some, None, is_some, option_and_then, codes, refl, ◌∙◌}
use Rattle.std.specs.Prelude.{if◌then◌else◌}
use Rattle.std.specs.Str.{bytes_eq}
use Rattle.registry.specs.declared.book_name.BookName.{BookName}
use Rattle.registry.specs.BookName.{book_named}
use Rattle.lexer.specs.Numerals.{number_typed}
use Rattle.script.specs.declared.slot.Slot.TheVariants as slot
use Rattle.script.specs.Grammar.{typed_procedure, cut_typed, each_read, typed_note, typed_row, book_line, house_line, roll_line, note_form, format_form, attach_form, enter_form, countersign_form, withdraw_form, certify_form, strike_form, item_form, record_form, command, command_line, line_said}
use Rattle.script.specs.Misfit.{SlotsValue, InOrder, Repeated, slot_takes, note_slots, next_slot, command_slots, asked_slots, slots_behind}

-- no word need follow
abbrev pub may_end : SlotsValue → Bool
may_end (InOrder []) = true
may_end (InOrder (s ∷ ss)) = false
may_end (Repeated s) = true

-- whether words fit slots, to the end
abbrev pub fit : Option BookName → SlotsValue → List (List ℕ) → Bool
fit book ss [] = may_end ss
fit book ss (w ∷ ws) = elim (next_slot ss) [ None ↦ false | Some n ↦ slot_takes book n.0 w && fit book n.1 ws ]

-- the same, of the slots of a form, if there is one
abbrev pub fit_form : Option BookName → Option SlotsValue → List (List ℕ) → Bool
fit_form book None ws = false
fit_form book (Some ss) ws = fit book ss ws

and_false : (b : Bool) → (b && false) ≡ false
and_false true = refl
and_false false = refl

-- a step of a `do`, and its last one
some_then : {X Y : Type 0} (o : Option X) (f : X → Option Y) (b : Bool) → ((x : X) → is_some (f x) ≡ b) → is_some (option_and_then f o) ≡ (is_some o && b)
some_then None f b h = refl
some_then (Some x) f b h = h x

some_last : {X Y : Type 0} (o : Option X) (f : X → Y) → is_some (option_and_then (λ x. Some (f x)) o) ≡ is_some o
some_last None f = refl
some_last (Some x) f = refl

some_one : {X Y : Type 0} (o : Option X) (f : X → Y) → is_some (option_and_then (λ x. Some (f x)) o) ≡ (is_some o && true)
some_one None f = refl
some_one (Some x) f = refl

typed_note-some : (book : BookName) (p a b n : List ℕ)
    → is_some (typed_note book p a b n) ≡ (is_some (typed_procedure book p) && (is_some (number_typed a) && (is_some (number_typed b) && (is_some (number_typed n) && true))))
typed_note-some book p a b n =
    some_then (typed_procedure book p) _ _ (λ _. some_then (number_typed a) _ _ (λ _. some_then (number_typed b) _ _ (λ _. some_one (number_typed n) _)))

typed_row-some : (book : BookName) (row user p role mask : List ℕ)
    → is_some (typed_row book row user p role mask) ≡ (is_some (number_typed row) && (is_some (number_typed user) && (is_some (typed_procedure book p) && (is_some (number_typed role) && (is_some (number_typed mask) && true)))))
typed_row-some book row user p role mask =
    some_then (number_typed row) _ _ (λ _. some_then (number_typed user) _ _ (λ _. some_then (typed_procedure book p) _ _ (λ _. some_then (number_typed role) _ _ (λ _. some_one (number_typed mask) _))))

note-some : (book : BookName) (ws : List (List ℕ)) → is_some (note_form book ws) ≡ fit (Some book) (InOrder note_slots) ws
note-some book [] = refl
note-some book (p ∷ []) = simp and_false
note-some book (p ∷ (a ∷ [])) = simp and_false
note-some book (p ∷ (a ∷ (b ∷ []))) = simp and_false
note-some book (p ∷ (a ∷ (b ∷ (n ∷ [])))) = some_last (typed_note book p a b n) _ ∙ typed_note-some book p a b n
note-some book (p ∷ (a ∷ (b ∷ (n ∷ (w ∷ ws))))) = simp and_false

enter-some : (book : BookName) (ws : List (List ℕ)) → is_some (enter_form book ws) ≡ fit (Some book) (InOrder (slot.Name ∷ (slot.Number ∷ (slot.Name ∷ note_slots)))) ws
enter-some book [] = refl
enter-some book (s ∷ []) = refl
enter-some book (s ∷ (u ∷ [])) = simp and_false
enter-some book (s ∷ (u ∷ (v ∷ []))) = simp and_false
enter-some book (s ∷ (u ∷ (v ∷ (p ∷ [])))) = simp and_false
enter-some book (s ∷ (u ∷ (v ∷ (p ∷ (a ∷ []))))) = simp and_false
enter-some book (s ∷ (u ∷ (v ∷ (p ∷ (a ∷ (b ∷ [])))))) = simp and_false
enter-some book (s ∷ (u ∷ (v ∷ (p ∷ (a ∷ (b ∷ (n ∷ []))))))) =
    some_then (number_typed u) _ _ (λ _. some_last (typed_note book p a b n) _ ∙ typed_note-some book p a b n)
enter-some book (s ∷ (u ∷ (v ∷ (p ∷ (a ∷ (b ∷ (n ∷ (w ∷ ws)))))))) = simp and_false

countersign-some : (book : BookName) (ws : List (List ℕ)) → is_some (countersign_form ws) ≡ fit (Some book) (InOrder (slot.Name ∷ (slot.Number ∷ (slot.Name ∷ [])))) ws
countersign-some book [] = refl
countersign-some book (s ∷ []) = refl
countersign-some book (s ∷ (u ∷ [])) = simp and_false
countersign-some book (s ∷ (u ∷ (v ∷ []))) = some_one (number_typed u) _
countersign-some book (s ∷ (u ∷ (v ∷ (w ∷ ws)))) = simp and_false

withdraw-some : (book : BookName) (ws : List (List ℕ)) → is_some (withdraw_form ws) ≡ fit (Some book) (InOrder (slot.Name ∷ [])) ws
withdraw-some book [] = refl
withdraw-some book (s ∷ []) = refl
withdraw-some book (s ∷ (w ∷ ws)) = refl

certify-some : (book : BookName) (ws : List (List ℕ))
    → is_some (certify_form book ws) ≡ fit (Some book) (InOrder (slot.Name ∷ (slot.Number ∷ (slot.Number ∷ (slot.Procedure ∷ (slot.Number ∷ (slot.Number ∷ []))))))) ws
certify-some book [] = refl
certify-some book (v ∷ []) = refl
certify-some book (v ∷ (r ∷ [])) = simp and_false
certify-some book (v ∷ (r ∷ (u ∷ []))) = simp and_false
certify-some book (v ∷ (r ∷ (u ∷ (p ∷ [])))) = simp and_false
certify-some book (v ∷ (r ∷ (u ∷ (p ∷ (o ∷ []))))) = simp and_false
certify-some book (v ∷ (r ∷ (u ∷ (p ∷ (o ∷ (m ∷ [])))))) =
    some_last (typed_row book r u p o m) _ ∙ typed_row-some book r u p o m
certify-some book (v ∷ (r ∷ (u ∷ (p ∷ (o ∷ (m ∷ (w ∷ ws))))))) = simp and_false

strike-some : (book : BookName) (ws : List (List ℕ)) → is_some (strike_form ws) ≡ fit (Some book) (InOrder (slot.Name ∷ (slot.Number ∷ []))) ws
strike-some book [] = refl
strike-some book (v ∷ []) = refl
strike-some book (v ∷ (r ∷ [])) = some_one (number_typed r) _
strike-some book (v ∷ (r ∷ (w ∷ ws))) = simp and_false

item-some : (book : BookName) (ws : List (List ℕ)) → is_some (item_form ws) ≡ fit (Some book) (InOrder (slot.Number ∷ [])) ws
item-some book [] = refl
item-some book (n ∷ []) = some_one (number_typed n) _
item-some book (n ∷ (w ∷ ws)) = simp and_false

record-some : (book : BookName) (ws : List (List ℕ)) → is_some (record_form ws) ≡ fit (Some book) (InOrder (slot.Number ∷ [])) ws
record-some book [] = refl
record-some book (n ∷ []) = some_one (number_typed n) _
record-some book (n ∷ (w ∷ ws)) = simp and_false

format-some : (book : BookName) (ws : List (List ℕ)) → is_some (format_form ws) ≡ fit (Some book) (InOrder (slot.Number ∷ [])) ws
format-some book [] = refl
format-some book (n ∷ []) = some_one (number_typed n) _
format-some book (n ∷ (w ∷ ws)) = simp and_false

attach-some : (book : BookName) (ws : List (List ℕ)) → is_some (attach_form ws) ≡ fit (Some book) (InOrder []) ws
attach-some book [] = refl
attach-some book (w ∷ ws) = refl

book-some : (chosen : Option BookName) (ws : List (List ℕ)) → is_some (book_line ws) ≡ fit chosen (InOrder (slot.Book ∷ [])) ws
book-some chosen [] = refl
book-some chosen (n ∷ []) = some_one (book_named n) _
book-some chosen (n ∷ (w ∷ ws)) = simp and_false

house-some : (chosen : Option BookName) (ws : List (List ℕ)) → is_some (house_line ws) ≡ fit chosen (InOrder (slot.Number ∷ [])) ws
house-some chosen [] = refl
house-some chosen (n ∷ []) = some_one (number_typed n) _
house-some chosen (n ∷ (w ∷ ws)) = simp and_false

roll-some : (chosen : Option BookName) (ws : List (List ℕ)) → is_some (roll_line ws) ≡ fit chosen (Repeated slot.Name) ws
roll-some chosen [] = refl
roll-some chosen (w ∷ ws) = roll-some chosen ws

each-numbers : (chosen : Option BookName) (ws : List (List ℕ)) → is_some (each_read number_typed ws) ≡ fit chosen (Repeated slot.Number) ws
each-numbers chosen [] = refl
each-numbers chosen (w ∷ ws) =
    some_then (number_typed w) _ _ (λ _. some_last (each_read number_typed ws) _ ∙ each-numbers chosen ws)

each-cuts : (chosen : Option BookName) (ws : List (List ℕ)) → is_some (each_read cut_typed ws) ≡ fit chosen (Repeated slot.Cut) ws
each-cuts chosen [] = refl
each-cuts chosen (w ∷ ws) =
    some_then (cut_typed w) _ _ (λ _. some_last (each_read cut_typed ws) _ ∙ each-cuts chosen ws)

-- one name of a chain of names
if-some : {X : Type 0} (chosen : Option BookName) (ws : List (List ℕ)) (c : Bool) (x y : Option X) (s t : Option SlotsValue)
    → is_some x ≡ fit_form chosen s ws → is_some y ≡ fit_form chosen t ws
    → is_some (if c then x else y) ≡ fit_form chosen (if c then s else t) ws
if-some chosen ws true x y s t h k = h
if-some chosen ws false x y s t h k = k

-- a command by its name
command-some : (book : BookName) (name : List ℕ) (ws : List (List ℕ)) → is_some (command book name ws) ≡ fit_form (Some book) (command_slots name) ws
command-some book name ws =
    if-some (Some book) ws (bytes_eq name (codes "note")) _ _ _ _ (note-some book ws)
    (if-some (Some book) ws (bytes_eq name (codes "enter")) _ _ _ _ (enter-some book ws)
    (if-some (Some book) ws (bytes_eq name (codes "countersign")) _ _ _ _ (countersign-some book ws)
    (if-some (Some book) ws (bytes_eq name (codes "withdraw")) _ _ _ _ (withdraw-some book ws)
    (if-some (Some book) ws (bytes_eq name (codes "certify")) _ _ _ _ (certify-some book ws)
    (if-some (Some book) ws (bytes_eq name (codes "strike")) _ _ _ _ (strike-some book ws)
    (if-some (Some book) ws (bytes_eq name (codes "item")) _ _ _ _ (item-some book ws)
    (if-some (Some book) ws (bytes_eq name (codes "record")) _ _ _ _ (record-some book ws)
    (if-some (Some book) ws (bytes_eq name (codes "format")) _ _ _ _ (format-some book ws)
    (if-some (Some book) ws (bytes_eq name (codes "attach")) _ _ _ _ (attach-some book ws) refl)))))))))

asked-some : (chosen : Option BookName) (name : List ℕ) (ws : List (List ℕ)) → is_some (command_line chosen name ws) ≡ fit_form chosen (asked_slots chosen name) ws
asked-some None name ws = refl
asked-some (Some book) name ws = some_last (command book name ws) _ ∙ command-some book name ws

-- a line by its words
pub line-some : (chosen : Option BookName) (name : List ℕ) (ws : List (List ℕ)) → is_some (line_said chosen (name ∷ ws)) ≡ fit_form chosen (slots_behind chosen name) ws
line-some chosen name ws =
    if-some chosen ws (bytes_eq name (codes "book")) _ _ _ _ (book-some chosen ws)
    (if-some chosen ws (bytes_eq name (codes "house")) _ _ _ _ (house-some chosen ws)
    (if-some chosen ws (bytes_eq name (codes "roll")) _ _ _ _ (roll-some chosen ws)
    (if-some chosen ws (bytes_eq name (codes "opening")) _ _ _ _ (some_last (each_read number_typed ws) _ ∙ each-numbers chosen ws)
    (if-some chosen ws (bytes_eq name (codes "cuts")) _ _ _ _ (some_last (each_read cut_typed ws) _ ∙ each-cuts chosen ws)
    (asked-some chosen name ws)))))
