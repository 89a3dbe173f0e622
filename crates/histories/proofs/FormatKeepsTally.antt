-- Format: accepted, the books begin; refused, they are as they were.
use Rattle.std.proofs.Common.{◌≡◌, ℕ, ◌^◌, ◌<◌, ◌≤◌, true, ◌&&◌, eqb, leb, ltb, List, ◌++◌, length, get_or, drop, Ok, Err, Option, Result, refl, sym, ap, ◌∙◌, subst, inl, inr, arith, not, IfSome}
use Rattle.std.proofs.lemmas.Bool.{and_parts, leb-true, ltb-true, eqb-true, cond-false, cases_lt}
use Rattle.std.proofs.lemmas.List.{get_or-replicate, get_or_past}
use Rattle.lists.specs.Answers.{passed}
use Rattle.refusals.specs.declared.refusal.Refusal.{Refusal}
use Rattle.refusals.specs.Table.{reason_number}
use Rattle.books.specs.Meaning.{Meaning}
use Rattle.journals.specs.JournalState.{size, home_of}
use Rattle.rights.specs.Covers.{free}
use Rattle.rights.specs.declared.row.Row.{Row}
use Rattle.records.specs.declared.record.Record.TheVariants.{Posting}
use Rattle.layout.specs.ReadBack.{CodesFit}
use Rattle.image.specs.Layout.{lawful_size, room}
use Rattle.monitor.specs.declared.stage.Stage.TheVariants.{Open}
use Rattle.monitor.specs.MonitorState.{MonitorState}
use Rattle.monitor.specs.Starting.{formattable, first_home, Formats, Starts, FormatDone}
use Rattle.histories.specs.Tally.{Tally, began, no_doubt, formatted}
use Rattle.histories.proofs.WritableBooks.{Writable, free_rows, no_tail}
use Rattle.histories.proofs.TallyInvariant.{Inv, inv_at}
use Rattle.histories.proofs.NoFalsePowerLoss.{NotLost, Clean, clean_ok, clean_if}
use Rattle.histories.proofs.HomeShowsTally.{Shown}

-- the tests that passed
pub record Formattable (m : Meaning) (n house : ℕ) (roll opening : List ℕ) : Type 0 where
  pub some_house : 1 ≤ house
  pub house_fits : house < 2 ^ 32
  pub roll_long : length roll ≡ 128
  pub opening_long : length opening ≡ 64
  pub fits : lawful_size n ≡ true
  pub valid : m.valid opening ≡ true

tests_passed : (m : Meaning) (n house : ℕ) (roll opening : List ℕ) (r : Unit {0}) → formattable m n house roll opening ≡ Ok r → Formattable m n house roll opening
tests_passed m n house roll opening r e =
    let h1 = passed (leb 1 house && ltb house (2 ^ 32)) _ _ r e in
    let h2 = passed (eqb (length roll) 128) _ _ r h1.1 in
    let h3 = passed (eqb (length opening) 64) _ _ r h2.1 in
    let h4 = passed (lawful_size n) _ _ r h3.1 in
    let h5 = passed (m.valid opening) _ _ r h4.1 in
    let house_ok = and_parts (leb 1 house) (ltb house (2 ^ 32)) h1.0 in
    record {
      some_house = leb-true 1 house house_ok.0;
      house_fits = ltb-true house (2 ^ 32) house_ok.1;
      roll_long = eqb-true (length roll) 128 h2.0;
      opening_long = eqb-true (length opening) 64 h3.0;
      fits = h4.0;
      valid = h5.0;
    }

clean_format : (m : Meaning) (n house : ℕ) (roll opening : List ℕ) → Clean (formattable m n house roll opening)
clean_format m n house roll opening =
    clean_if (not (leb 1 house && ltb house (2 ^ 32))) _ _ _ refl
    (clean_if (not (eqb (length roll) 128)) _ _ _ refl
    (clean_if (not (eqb (length opening) 64)) _ _ _ refl
    (clean_if (not (lawful_size n)) _ _ _ refl
    (clean_if (not (m.valid opening)) _ _ _ refl (clean_ok tt)))))

free_fit : (i : ℕ) → (get_or free_rows i free).mask < 2 ^ 64
free_fit i =
    elim (cases_lt i 32) [
      | inl l ↦ subst (λ (w : Row). w.mask < 2 ^ 64) (sym (get_or-replicate 32 i free free l)) (omega arith)
      | inr l ↦ subst (λ (w : Row). w.mask < 2 ^ 64) (sym (get_or_past free_rows i free l)) (omega arith)
    ]

-- books that begin are writable, and a drive that was just formatted shows them
began_good : (m : Meaning) (most n house : ℕ) (roll opening : List ℕ) → Formattable m n house roll opening → CodesFit opening → Writable m most (began opening)
began_good m most n house roll opening f fit =
    record {
      opening = record { valid = f.valid; long = f.opening_long; fit = fit };
      items = record { valid = f.valid; long = f.opening_long; fit = fit };
      rows = record { long = refl; fit = free_fit; executes = refl };
      records_applied = refl;
      every = refl;
      few = omega arith;
      rows_given = refl;
      by_two = λ before after p q. no_tail (Posting p) before after q;
    }

began_shown : (m : Meaning) (n house : ℕ) (roll opening : List ℕ) (rest : List (List ℕ)) → Formattable m n house roll opening → Shown m (began opening) (first_home m house roll opening ++ rest)
began_shown m n house roll opening rest f =
    record {
      head = record { house = house; kind = m.kind; count = 0 };
      head_stands = record { some_house = λ e. omega (arith, f.some_house); house_fits = f.house_fits; count_fits = omega arith; form = refl };
      own_kind = refl;
      counts = refl;
      items = refl;
      opening = refl;
      rows = refl;
      records = tt;
    }

-- an accepted format
done_keeps :
    (m : Meaning) (house : ℕ) (roll opening : List ℕ) (s u : MonitorState) → Formattable m (size s.disk) house roll opening → CodesFit opening
    → FormatDone (first_home m house roll opening) s u → Inv m (no_doubt (began opening)) u
done_keeps m house roll opening s u f fit d =
    let same : size u.disk ≡ size s.disk = d.initialized.same_size ∙ d.turned_on.same_size in
    inv_at m (no_doubt (began opening)) s.disk u Open f.fits same (began_good m (room (size s.disk)) (size s.disk) house roll opening f fit) d.stage
    (record {
      sure = refl;
      working = record {
        ready = d.initialized.ready;
        shows = subst (λ h. Shown m (began opening) h) (sym d.initialized.home_now) (began_shown m (size s.disk) house roll opening (drop 27 (home_of d.left)) f);
      };
    })

-- where there is a tally, its invariant holds
abbrev pub InvIf : Meaning → Option Tally → MonitorState → Type 0
InvIf m o s = IfSome o (λ t. Inv m t s)

-- a refusal that is not for lost power leaves the tally, or that there is none
refusal_leaves : (opening : List ℕ) (o : Option Tally) (e : Refusal) → NotLost e → formatted opening (Err e) o ≡ o
refusal_leaves opening o e n = cond-false (eqb (reason_number e.reason) 7) _ _ n

format_by :
    (m : Meaning) (house : ℕ) (roll opening : List ℕ) (o : Option Tally) (s u : MonitorState) (r : Result ℕ Refusal) (tests : Result (Unit {0}) Refusal)
    → formattable m (size s.disk) house roll opening ≡ tests → CodesFit opening → InvIf m o s → Starts (first_home m house roll opening) tests s r u
    → InvIf m (formatted opening r o) u
format_by m house roll opening o s u r (Err e) q fit i d =
    let same : formatted opening r o ≡ o = ap (λ z. formatted opening z o) d.answer ∙ refusal_leaves opening o e (subst (λ z. Clean z) q (clean_format m (size s.disk) house roll opening)).clean in
    subst (λ (z : MonitorState). InvIf m (formatted opening r o) z) (sym d.same) (subst (λ (z : Option Tally). InvIf m z s) (sym same) i)
format_by m house roll opening o s u (Ok n) (Ok v) q fit i d = done_keeps m house roll opening s u (tests_passed m (size s.disk) house roll opening v q) fit d.1
format_by m house roll opening o s u (Err e) (Ok v) q fit i d = subst (λ (z : Refusal). InvIf m (formatted opening (Err z) o) u) (sym d.answer) tt

pub format_keeps :
    (m : Meaning) (house : ℕ) (roll opening : List ℕ) (o : Option Tally) (s u : MonitorState) (r : Result ℕ Refusal)
    → InvIf m o s → Formats m s house roll opening r u → InvIf m (formatted opening r o) u
format_keeps m house roll opening o s u r i f = format_by m house roll opening o s u r _ refl f.fits i f.starts
