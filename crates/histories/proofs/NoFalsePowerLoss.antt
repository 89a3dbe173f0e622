-- No test of a call refuses for lost power.
use Rattle.std.proofs.Common.{◌≡◌, ℕ, Bool, true, false, ◌&&◌, ◌||◌, eqb, leb, ltb, get_or, Some, None, Ok, Err, Option, Result, IfErr, List, refl, not, if◌then◌else◌}
use Rattle.refusals.specs.declared.reason.Reason.{Reason}
use Rattle.refusals.specs.declared.reason.Reason.TheVariants.{EntererNotEntitled, CountersignerNotEntitled}
use Rattle.refusals.specs.declared.refusal.Refusal.{Refusal}
use Rattle.refusals.specs.declared.places.StepPlace.{StepPlace}
use Rattle.refusals.specs.Table.{reason_number}
use Rattle.refusals.specs.Refused.{refused, ◌>>=◌, ◌>>◌}
use Rattle.books.specs.Meaning.{Meaning, has_procedure}
use Rattle.rights.specs.Covers.{uncovered, free, is_free}
use Rattle.rights.specs.declared.row.Row.{Row}
use Rattle.records.specs.declared.record.Posting.{Posting}
use Rattle.records.specs.declared.record.Record.{Record}
use Rattle.applying.specs.declared.row_draft.RowDraft.{RowDraft}
use Rattle.applying.specs.BookState.{BookState, with_codes, step_on, draft_of}
use Rattle.applying.specs.Applied.{enters, countersigns, two_people, none_uncovered, codes_given, posted}
use Rattle.applying.specs.Rows.{checked_row, had_room, row_set, row_filled, certified, struck}
use Rattle.updates.specs.Update.{resulting_update}

-- the refusal is not for lost power
abbrev pub NotLost : Refusal → Type 0
NotLost e = eqb (reason_number e.reason) 7 ≡ false

-- no refusal of this answer is
pub record Clean {X : Type 0} (r : Result X Refusal) : Type 0 where
  pub clean : IfErr r NotLost

pub clean_ok : {X : Type 0} (x : X) → Clean (Ok x)
clean_ok x = record { clean = tt }

pub clean_refused : {X : Type 0} (why : Reason) (place : ℕ) → eqb (reason_number why) 7 ≡ false → Clean {X = X} (refused why place)
clean_refused why place h = record { clean = h }

-- tests one after another
pub clean_if : {X : Type 0} (t : Bool) (why : Reason) (place : ℕ) (r : Result X Refusal) → eqb (reason_number why) 7 ≡ false → Clean r → Clean (if t then refused why place else r)
clean_if true why place r h c = clean_refused why place h
clean_if false why place r h c = c

pub clean_then : {X Y : Type 0} (r : Result X Refusal) (next : X → Result Y Refusal) → Clean r → ((x : X) → Clean (next x)) → Clean (r >>= next)
clean_then (Ok x) next p q = q x
clean_then (Err f) next p q = record { clean = p.clean }

pub clean_after : {X Y : Type 0} (r : Result X Refusal) (next : Result Y Refusal) → Clean r → Clean next → Clean (r >> next)
clean_after (Ok x) next p q = q
clean_after (Err f) next p q = record { clean = p.clean }

clean_uncovered : (why : Reason) (o : Option ℕ) → eqb (reason_number why) 7 ≡ false → Clean (none_uncovered why o)
clean_uncovered why None h = clean_ok tt
clean_uncovered why (Some i) h = clean_refused why i h

clean_codes : (r : Result (ℕ × ℕ) StepPlace) → Clean (codes_given r)
clean_codes (Ok codes) = clean_ok codes
clean_codes (Err e) = clean_refused _ _ refl

clean_room : (room : ℕ) (s : BookState) → Clean (had_room room s)
clean_room room s = clean_if (not (ltb s.count room)) _ _ _ refl (clean_ok tt)

pub clean_posted : (m : Meaning) (room : ℕ) (s : BookState) (p : Posting) → Clean (posted m room s p)
clean_posted m room s p =
    clean_after (two_people p) _ (clean_if (eqb p.countersigner p.enterer) _ _ _ refl (clean_ok tt))
    (clean_after _ _ (clean_uncovered EntererNotEntitled (uncovered s.rows (enters p) p.a p.b) refl)
    (clean_after _ _ (clean_uncovered CountersignerNotEntitled (uncovered s.rows (countersigns p) p.a p.b) refl)
    (clean_after _ _ (clean_room room s)
    (clean_then _ _ (clean_codes (step_on m s (draft_of p)))
    (λ codes. clean_if (not (m.valid (with_codes s p.a p.b codes).items)) _ _ _ refl (clean_ok _))))))

clean_set : (room : ℕ) (s : BookState) (k : ℕ) (w : Row) → Clean (row_set room s k w)
clean_set room s k w = clean_after _ _ (clean_room room s) (clean_ok _)

clean_checked : (m : Meaning) (d : RowDraft) → Clean (checked_row m d)
clean_checked m d =
    clean_if (not (leb d.row 31)) _ _ _ refl
    (clean_if (not (leb 1 d.user && leb d.user 15)) _ _ _ refl
    (clean_if (not (has_procedure m d.procedure)) _ _ _ refl
    (clean_if (not (eqb d.role 1 || eqb d.role 2)) _ _ _ refl
    (clean_if (eqb d.mask 0) _ _ _ refl (clean_ok _)))))

pub clean_certified : (m : Meaning) (room : ℕ) (s : BookState) (d : RowDraft) → Clean (certified m room s d)
clean_certified m room s d =
    clean_then (checked_row m d) (row_filled room s d.row) (clean_checked m d)
    (λ w. clean_if (not (is_free (get_or s.rows d.row free))) _ _ _ refl (clean_set room s d.row w))

pub clean_struck : (room : ℕ) (s : BookState) (k : ℕ) → Clean (struck room s k)
clean_struck room s k =
    clean_if (not (leb k 31)) _ _ _ refl (clean_if (is_free (get_or s.rows k free)) _ _ _ refl (clean_set room s k free))

pub clean_wanted : (h : List (List ℕ)) (x : Record) (r : Result BookState Refusal) → Clean r → Clean (resulting_update h x r)
clean_wanted h x (Ok s) c = clean_ok _
clean_wanted h x (Err f) c = record { clean = c.clean }
