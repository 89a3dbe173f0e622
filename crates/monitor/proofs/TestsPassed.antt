-- Tests that passed or refused, and what follows them.
use Rattle.std.proofs.Common.{◌≡◌, ℕ, ◌≤◌, List, Ok, Err, Result, Option, Some, None, refl}
use Rattle.std.proofs.Common.{sym, ap, ◌∙◌, arith}
use Rattle.std.specs.Prelude.{if◌then◌else◌}
use Rattle.std.specs.Option.{ok_or}
use Rattle.std.specs.Result.{IsErrAnd}
use Rattle.std.proofs.lemmas.Bool.{le-leb}
use Rattle.std.proofs.lemmas.Result.{err_from_is_err_and}
use Rattle.refusals.specs.declared.reason.Reason.{Reason}
use Rattle.refusals.specs.declared.reason.Reason.TheVariants.{EntererNotEntitled, NoSuchEntry}
use Rattle.refusals.specs.declared.refusal.Refusal.{Refusal}
use Rattle.refusals.specs.Refused.{◌>>◌}
use Rattle.books.specs.Meaning.{Meaning}
use Rattle.notes.specs.declared.note_numbers.NoteNumbers.{NoteNumbers}
use Rattle.rights.specs.Covers.{uncovered}
use Rattle.rights.specs.declared.row.Row.{Row}
use Rattle.rights.specs.declared.role.Role.TheVariants.{Enter}
use Rattle.journals.specs.JournalState.{JournalState, home_of}
use Rattle.records.specs.declared.record.Record.{Record}
use Rattle.layout.specs.declared.head.Head.{Head}
use Rattle.applying.specs.Applied.{none_uncovered}
use Rattle.applying.specs.BookState.{BookState}
use Rattle.image.specs.Home.{head_on, count_on, rows_on, record_on}
use Rattle.image.specs.Reading.{code_on, record_within}
use Rattle.monitor.specs.declared.slip_numbers.SlipNumbers.{SlipNumbers}
use Rattle.monitor.specs.Asking.{identified, own_note, asked_of, may_enter, slip_of, entered}
use Rattle.monitor.specs.Asking.{found, is_counted, item_found, record_found}
use Rattle.monitor.specs.MonitorState.{MonitorState, IsOpenOn}
use Rattle.monitor.specs.Slips.{SlipValue, unspent, handed_out}
use Rattle.monitor.specs.Stages.{may_work}

-- a test that passed
pub passes : ◌≡◌ {A = Result (Unit {0}) Refusal} (Ok tt) (Ok tt)
passes = refl

-- it leaves what follows it
pub after_test :
    {X : Type 0} (a : Result (Unit {0}) Refusal) (next : Result X Refusal) → Ok tt ≡ a
    → (a >> next) ≡ next
after_test a next p = ap (λ z. z >> next) (sym p)

-- and one that refuses ends it
pub stops :
    {X : Type 0} (a : Result (Unit {0}) Refusal) (next : Result X Refusal) (e : Refusal) → Err e ≡ a
    → (a >> next) ≡ Err e
stops a next e p = ap (λ z. z >> next) (sym p)

-- what the exit of a `?` returns
pub exit_is :
    {X : Type 0} (r : Result X Refusal) (e : Refusal) → IsErrAnd r (λ y. y ≡ e) → r ≡ Err e
exit_is r e f = let p = err_from_is_err_and r f in p.1 ∙ ap Err p.2

-- what applying a record gives on the books and the room that were read
pub gives_read :
    (f : ℕ → BookState → Result BookState Refusal) (k l : ℕ) (s u : BookState)
    (a : Result BookState Refusal) → k ≡ l → s ≡ u → f k s ≡ a → f l u ≡ a
gives_read f k l s u a p q g = ap (λ z. f z u) (sym p) ∙ ap (f k) (sym q) ∙ g

-- a refusal, by its parts
pub refusal_is :
    (e : Refusal) (why : Reason) (place : ℕ) → e.reason ≡ why → e.place ≡ place
    → e ≡ record { reason = why; place = place }
refusal_is e why place p q =
    let first : e ≡ record { reason = why; place = e.place } =
    ap (λ (z : Reason). record { reason = z; place = e.place }) p in
    first ∙ ap (λ z. record { reason = why; place = z }) q

-- every call that works with the books is admitted
pub admits : (s : MonitorState) (d : JournalState) → IsOpenOn s d → Ok tt ≡ may_work s.stage
admits s d is_open = ap may_work (sym is_open.stage)

-- what the rows say of a user who enters a note: p, a and b are the note's procedure and items, as
-- they were read
module _
    (h : List (List ℕ)) (user : ℕ) (note : NoteNumbers) (rows : List Row) (p a b : ℕ)
    (stand : rows ≡ rows_on h) (procedure : p ≡ note.procedure) (first : a ≡ note.a)
    (second : b ≡ note.b)
  where
    abbrev found_uncovered : Option ℕ
    found_uncovered = uncovered rows (record { user = user; procedure = p; role = Enter }) a b

    abbrev passes_rows : Option ℕ → Result (Unit {0}) Refusal
    passes_rows o = none_uncovered EntererNotEntitled o

    uncovered_is : found_uncovered ≡ uncovered (rows_on h) (asked_of user note) note.a note.b
    uncovered_is = cc

    pub entitled : None ≡ found_uncovered → Ok tt ≡ may_enter h user note
    entitled f = ap passes_rows (f ∙ uncovered_is)

    pub not_entitled :
        (item : ℕ) (e : Refusal) → Some item ≡ found_uncovered → e.reason ≡ EntererNotEntitled
        → e.place ≡ item → Err e ≡ may_enter h user note
    not_entitled item e f why at =
        ap Err (refusal_is e EntererNotEntitled item why at) ∙ ap passes_rows (f ∙ uncovered_is)

-- enter at a stage that does not admit it
pub enter_shut :
    (m : Meaning) (s : MonitorState) (user : ℕ) (word : List ℕ) (note : NoteNumbers) (e : Refusal)
    (r : Result SlipValue Refusal) → may_work s.stage ≡ Err e → r ≡ Err e
    → r ≡ handed_out (entered m s user word note)
enter_shut m s user word note e r shut p =
    p ∙ sym (ap handed_out (stops (may_work s.stage) _ e (sym shut)))

-- enter on an open monitor: n is the note as it was read
module _
    (m : Meaning) (s : MonitorState) (d : JournalState) (is_open : IsOpenOn s d)
    (user : ℕ) (word : List ℕ) (note n : NoteNumbers) (noted : n ≡ note)
  where
    abbrev rows_test : JournalState → NoteNumbers → Result SlipNumbers Refusal
    rows_test e z = may_enter (home_of e) user z >> Ok (slip_of (home_of e) user z)

    abbrev word_test : JournalState → NoteNumbers → Result SlipNumbers Refusal
    word_test e z = identified (home_of e) user word >> rows_test e z

    as_read : entered m s user word note ≡ (own_note m n >> word_test d n)
    as_read =
        after_test (may_work s.stage) _ (admits s d is_open)
        ∙ ap (λ z. own_note m z >> word_test s.disk z) (sym noted)
        ∙ ap (λ z. own_note m n >> word_test z n) (sym is_open.same)

    -- the note is another book's
    pub enter_foreign :
        (e : Refusal) (r : Result SlipValue Refusal) → Err e ≡ own_note m n → r ≡ Err e
        → r ≡ handed_out (entered m s user word note)
    enter_foreign e r f p = p ∙ sym (ap handed_out (as_read ∙ stops (own_note m n) _ e f))

    module _ (own : Ok tt ≡ own_note m n) where
      own_read : entered m s user word note ≡ word_test d n
      own_read = as_read ∙ after_test (own_note m n) _ own

      -- the word is not the user's
      pub enter_unknown :
          (e : Refusal) (r : Result SlipValue Refusal) → Err e ≡ identified (home_of d) user word
          → r ≡ Err e → r ≡ handed_out (entered m s user word note)
      enter_unknown e r f p =
          p ∙ sym (ap handed_out (own_read ∙ stops (identified (home_of d) user word) _ e f))

      module _ (known : Ok tt ≡ identified (home_of d) user word) where
        known_read : entered m s user word note ≡ rows_test d n
        known_read = own_read ∙ after_test (identified (home_of d) user word) _ known

        -- the rows do not entitle the user
        pub enter_refused :
            (e : Refusal) (r : Result SlipValue Refusal) → Err e ≡ may_enter (home_of d) user n
            → r ≡ Err e → r ≡ handed_out (entered m s user word note)
        enter_refused e r f p =
            p ∙ sym (ap handed_out (known_read ∙ stops (may_enter (home_of d) user n) _ e f))

        -- the slip is made
        pub enter_made :
            (slip : SlipValue) (k : Head) → Ok tt ≡ may_enter (home_of d) user n
            → k ≡ head_on (home_of d)
            → slip ≡ unspent (record { numbers = note; enterer = user; house = k.house })
            → Ok slip ≡ handed_out (entered m s user word note)
        enter_made slip k may head made =
            let slip_with : Head → NoteNumbers → SlipValue =
            λ w z. unspent (record { numbers = z; enterer = user; house = w.house }) in
            let same : slip ≡ slip_with (head_on (home_of d)) n =
            made
            ∙ ap (λ w. slip_with w note) head
            ∙ ap (slip_with (head_on (home_of d))) (sym noted) in
            let is : entered m s user word note ≡ Ok (slip_of (home_of d) user n) =
            known_read ∙ after_test (may_enter (home_of d) user n) _ may in
            ap Ok same ∙ sym (ap handed_out is)

-- what was found, or the refusal
found_is :
    {X : Type 0} (k : ℕ) (o : Option X) (e : Refusal)
    → e ≡ record { reason = NoSuchEntry; place = k } → ok_or o e ≡ found k o
found_is k None e q = ap Err q
found_is k (Some x) e q = refl

-- what was read of an open monitor, or the refusal e, and the answer r
module _
    (s : MonitorState) (d : JournalState) (is_open : IsOpenOn s d) (k : ℕ) (e : Refusal)
    (why : e.reason ≡ NoSuchEntry) (at : e.place ≡ k)
  where
    pub item_found_is :
        (o : Option ℕ) (r : Result ℕ Refusal) → o ≡ code_on (home_of d) k → r ≡ ok_or o e
        → r ≡ item_found s k
    item_found_is o r f p =
        p
        ∙ found_is k o e (refusal_is e NoSuchEntry k why at)
        ∙ ap (found k) (f ∙ ap (λ z. code_on (home_of z) k) is_open.same)
        ∙ sym (after_test (may_work s.stage) _ (admits s d is_open))

    -- a record of a number that the head w counts, for which there is room
    pub record_found_is :
        (w : Head) (most : ℕ) (o : Option Record) (r : Result Record Refusal)
        → w ≡ head_on (home_of d) → Ok tt ≡ is_counted k w.count → k ≤ w.count
        → count_on (home_of d) ≤ most → o ≡ record_within most (home_of d) k → r ≡ ok_or o e
        → r ≡ record_found s k
    record_found_is w most o r head passed within found_room f p =
        let counts : w.count ≡ count_on (home_of d) = ap (λ (z : Head). z.count) head in
        let counted : Ok tt ≡ is_counted k (count_on (home_of d)) =
        passed ∙ ap (is_counted k) counts in
        let room : k ≤ most = omega (arith, counts) in
        let is : o ≡ record_on (home_of d) k =
        f ∙ ap (λ t. if t then record_on (home_of d) k else None) (le-leb k most room) in
        let rest : JournalState → Result Record Refusal =
        λ z. is_counted k (count_on (home_of z)) >> found k (record_on (home_of z) k) in
        p
        ∙ found_is k o e (refusal_is e NoSuchEntry k why at)
        ∙ ap (found k) is
        ∙ sym (after_test (is_counted k (count_on (home_of d))) _ counted)
        ∙ ap rest is_open.same
        ∙ sym (after_test (may_work s.stage) _ (admits s d is_open))
