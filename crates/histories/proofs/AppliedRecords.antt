-- What a record that was applied tells: its tests passed, there was room, and its effect is what
-- stands after it.
use Rattle.std.proofs.Common.{◌≡◌, ℕ, ◌<◌, ◌≤◌, Bool, true, false, ◌&&◌, ◌||◌, eqb, leb, ltb, List, [], ◌∷◌, ◌≢◌, inl, inr, get_or, Some, None, Ok, Err, Option, Result, refl, sym, ap, ◌∙◌, not, if◌then◌else◌}
use Rattle.std.proofs.lemmas.Bool.{and_parts, or_right, cases_Bool, false≢true, leb-true, ltb-true, eqb-true, eqb-false}
use Rattle.std.specs.List.{list_all, list_any}
use Rattle.lists.specs.Answers.{passed, same_ok, not_ok}
use Rattle.refusals.specs.declared.reason.Reason.{Reason}
use Rattle.refusals.specs.declared.reason.Reason.TheVariants.{EntererNotEntitled, CountersignerNotEntitled}
use Rattle.refusals.specs.declared.refusal.Refusal.{Refusal}
use Rattle.refusals.specs.declared.places.StepPlace.{StepPlace}
use Rattle.refusals.specs.Laws.{accepted_then, accepted_after}
use Rattle.books.specs.Meaning.{Meaning, has_procedure}
use Rattle.rights.specs.Covers.{role_number, has_item, covers, covered, uncovered, free, is_free}
use Rattle.rights.specs.declared.role.Role.{Role}
use Rattle.rights.specs.declared.role.Role.TheVariants.{Enter, Countersign}
use Rattle.rights.specs.declared.row_question.RowQuestion.{RowQuestion}
use Rattle.rights.specs.declared.row.Row.{Row}
use Rattle.records.specs.declared.record.Posting.{Posting}
use Rattle.applying.specs.declared.row_draft.RowDraft.{RowDraft}
use Rattle.applying.specs.BookState.{BookState, with_codes, with_row, step_on, draft_of}
use Rattle.applying.specs.Applied.{enters, countersigns, two_people, none_uncovered, codes_given, posted}
use Rattle.applying.specs.Rows.{asked_row, checked_row, had_room, row_set, row_filled, certified, struck}
use Rattle.histories.specs.Law.{Entitled, Executes}

-- an answer that is no refusal came through a test that refuses when it holds
refused_if : {X : Type 0} (t : Bool) (e : Refusal) (r : Result X Refusal) (x : X) → (if t then Err e else r) ≡ Ok x → (t ≡ false) × (r ≡ Ok x)
refused_if true e r x h = not_ok x e (sym h)
refused_if false e r x h = (refl, h)

-- where no item is refused, none is uncovered
none_refused : (why : Reason) (o : Option ℕ) (x : Unit {0}) → none_uncovered why o ≡ Ok x → o ≡ None
none_refused why None x h = refl
none_refused why (Some i) x h = not_ok x _ (sym h)

-- where none of two items is uncovered, both are covered
both_covered : (rows : List Row) (q : RowQuestion) (a b : ℕ) → uncovered rows q a b ≡ None → Entitled rows q a b
both_covered rows q a b h = tested (covered rows q a) (covered rows q b) refl refl h where
  tested : (s t : Bool) → covered rows q a ≡ s → covered rows q b ≡ t → (if not s then Some a else if not t then Some b else None) ≡ None → Entitled rows q a b
  tested true true p r h = (p, r)
  tested true false p r h = cc
  tested false t p r h = cc

given : (r : Result (ℕ × ℕ) StepPlace) (codes : ℕ × ℕ) → codes_given r ≡ Ok codes → r ≡ Ok codes
given (Ok xy) codes h = ap Ok (same_ok xy codes h)
given (Err e) codes h = not_ok codes _ (sym h)

roomy : (room : ℕ) (s : BookState) (x : Unit {0}) → had_room room s ≡ Ok x → s.count < room
roomy room s x h = ltb-true s.count room (passed (ltb s.count room) (Ok tt) _ x h).0

-- a user from 1 to 15
abbrev pub executes : ℕ → Bool
executes u = leb 1 u && leb u 15

-- a row that names no role, as a free one, or a user who executes
abbrev pub row_executes : Row → Bool
row_executes w = eqb w.role 0 || executes w.user

no_role : (r : Role) → eqb (role_number r) 0 ≡ false
no_role Enter = refl
no_role Countersign = refl

-- whom a row covers is the user that it names
one_covers : (w : Row) (q : RowQuestion) (i : ℕ) → row_executes w ≡ true → covers w q i ≡ true → executes q.user ≡ true
one_covers w q i ok c =
    let named = (and_parts (eqb w.user q.user && (eqb w.procedure q.procedure && eqb w.role (role_number q.role))) (has_item w.mask i) c).0 in
    let parts = and_parts (eqb w.user q.user) (eqb w.procedure q.procedure && eqb w.role (role_number q.role)) named in
    let role = (and_parts (eqb w.procedure q.procedure) (eqb w.role (role_number q.role)) parts.1).1 in
    let some : eqb w.role 0 ≡ false = ap (λ z. eqb z 0) (eqb-true w.role (role_number q.role) role) ∙ no_role q.role in
    let user : executes w.user ≡ true = ap (λ b. b || executes w.user) (sym some) ∙ ok in
    ap executes (sym (eqb-true w.user q.user parts.0)) ∙ user

-- who is covered executes, where each row names no role or a user who does
pub who_executes : (rows : List Row) (q : RowQuestion) (i : ℕ) → list_all row_executes rows ≡ true → covered rows q i ≡ true → Executes q.user
who_executes rows q i ok c = from_test (some_covers rows ok c) where
  some_covers : (ws : List Row) → list_all row_executes ws ≡ true → list_any (λ w. covers w q i) ws ≡ true → executes q.user ≡ true
  some_covers [] k d = absurd (false≢true d)
  some_covers (w ∷ ws) k d =
      let each = and_parts (row_executes w) (list_all row_executes ws) k in
      elim (cases_Bool (covers w q i)) [
        | inl y ↦ one_covers w q i each.0 y
        | inr n ↦ some_covers ws each.1 (ap (λ b. b || list_any (λ v. covers v q i) ws) (sym n) ∙ d)
      ]

  from_test : executes q.user ≡ true → Executes q.user
  from_test e = let p = and_parts (leb 1 q.user) (leb q.user 15) e in (leb-true 1 q.user p.0, leb-true q.user 15 p.1)

-- a posting that was applied
pub record Posted (m : Meaning) (room : ℕ) (s : BookState) (p : Posting) (t : BookState) : Type 0 where
  pub different : p.enterer ≢ p.countersigner
  pub enterer : Entitled s.rows (enters p) p.a p.b
  pub countersigner : Entitled s.rows (countersigns p) p.a p.b
  pub had_room : s.count < room
  pub codes : ℕ × ℕ
  pub stepped : step_on m s (draft_of p) ≡ Ok codes
  pub valid : m.valid t.items ≡ true
  pub is : t ≡ with_codes s p.a p.b codes

pub posted_tells : (m : Meaning) (room : ℕ) (s : BookState) (p : Posting) (t : BookState) → posted m room s p ≡ Ok t → Posted m room s p t
posted_tells m room s p t h =
    let h1 = accepted_after (two_people p) _ t h in
    let h2 = accepted_after (none_uncovered EntererNotEntitled (uncovered s.rows (enters p) p.a p.b)) _ t h1.2 in
    let h3 = accepted_after (none_uncovered CountersignerNotEntitled (uncovered s.rows (countersigns p) p.a p.b)) _ t h2.2 in
    let h4 = accepted_after (had_room room s) _ t h3.2 in
    let h5 = accepted_then (codes_given (step_on m s (draft_of p))) _ t h4.2 in
    let after = with_codes s p.a p.b h5.0 in
    let h6 = passed (m.valid after.items) (Ok after) _ t h5.2 in
    let is : after ≡ t = same_ok after t h6.1 in
    record {
      different = λ q. eqb-false p.countersigner p.enterer (refused_if (eqb p.countersigner p.enterer) _ _ h1.0 h1.1).0 (sym q);
      enterer = both_covered s.rows (enters p) p.a p.b (none_refused _ _ h2.0 h2.1);
      countersigner = both_covered s.rows (countersigns p) p.a p.b (none_refused _ _ h3.0 h3.1);
      had_room = roomy room s h4.0 h4.1;
      codes = h5.0;
      stepped = given _ h5.0 h5.1;
      valid = ap (λ (z : BookState). m.valid z.items) (sym is) ∙ h6.0;
      is = sym is;
    }

-- a row that was filled or freed
pub record RowSet (room : ℕ) (s : BookState) (k : ℕ) (w : Row) (t : BookState) : Type 0 where
  pub row_low : k ≤ 31
  pub had_room : s.count < room
  pub executes : row_executes w ≡ true
  pub is : t ≡ with_row s k w

row_is_set : (room : ℕ) (s : BookState) (k : ℕ) (w : Row) (t : BookState) → k ≤ 31 → row_executes w ≡ true → row_set room s k w ≡ Ok t → RowSet room s k w t
row_is_set room s k w t low who h =
    let r = accepted_after (had_room room s) _ t h in
    record { row_low = low; had_room = roomy room s r.0 r.1; executes = who; is = sym (same_ok _ t r.2) }

row_checked : (m : Meaning) (d : RowDraft) (w : Row) → checked_row m d ≡ Ok w → (d.row ≤ 31) × (executes d.user ≡ true) × (asked_row d ≡ w)
row_checked m d w h =
    let h1 = passed (leb d.row 31) _ _ w h in
    let h2 = passed (leb 1 d.user && leb d.user 15) _ _ w h1.1 in
    let h3 = passed (has_procedure m d.procedure) _ _ w h2.1 in
    let h4 = passed (eqb d.role 1 || eqb d.role 2) _ _ w h3.1 in
    let h5 = refused_if (eqb d.mask 0) _ _ w h4.1 in (leb-true d.row 31 h1.0, h2.0, same_ok (asked_row d) w h5.1)

pub certified_tells : (m : Meaning) (room : ℕ) (s : BookState) (d : RowDraft) (t : BookState) → certified m room s d ≡ Ok t → RowSet room s d.row (asked_row d) t
certified_tells m room s d t h =
    let v = accepted_then (checked_row m d) (row_filled room s d.row) t h in
    let c = row_checked m d v.0 v.1 in
    let f = passed (is_free (get_or s.rows d.row free)) (row_set room s d.row v.0) _ t v.2 in
    row_is_set room s d.row (asked_row d) t c.0 (or_right (eqb d.role 0) (executes d.user) c.1) (ap (row_set room s d.row) c.2 ∙ f.1)

pub struck_tells : (room : ℕ) (s : BookState) (k : ℕ) (t : BookState) → struck room s k ≡ Ok t → RowSet room s k free t
struck_tells room s k t h =
    let h1 = passed (leb k 31) _ _ t h in
    let h2 = refused_if (is_free (get_or s.rows k free)) _ (row_set room s k free) t h1.1 in
    row_is_set room s k free t (leb-true k 31 h1.0) refl h2.1
