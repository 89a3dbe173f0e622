-- From the tests of a call that applies a record to what it promises.
use Rattle.std.proofs.Common.{◌≡◌, ℕ, List, Ok, Err, Result, refl, sym, ap, ◌∙◌, subst}
use Rattle.refusals.specs.declared.refusal.Refusal.{Refusal}
use Rattle.books.specs.Meaning.{Meaning}
use Rattle.notes.specs.Notes.{IsNote}
use Rattle.changes.specs.declared.home.Home.{Home}
use Rattle.journals.specs.JournalState.{JournalState, size, home_of}
use Rattle.records.specs.declared.record.Posting.{Posting as PostingRecord}
use Rattle.records.specs.declared.record.Record.{Record}
use Rattle.records.specs.declared.record.Record.TheVariants.{Posting, Strike}
use Rattle.layout.specs.declared.head.Head.{Head}
use Rattle.applying.specs.declared.row_draft.RowDraft.{RowDraft}
use Rattle.applying.specs.Applied.{posted}
use Rattle.applying.specs.BookState.{BookState}
use Rattle.applying.specs.Rows.{certified, struck}
use Rattle.image.specs.Home.{head_on, house_on, state_on, state_with}
use Rattle.image.specs.Layout.{room}
use Rattle.updates.specs.Update.{update_of, resulting_update}
use Rattle.monitor.specs.declared.slip_numbers.SlipNumbers.{SlipNumbers}
use Rattle.monitor.specs.Asking.{identified}
use Rattle.monitor.specs.Calls.{MakesChange, ChangesOrRefuses, own_slip, posting_record}
use Rattle.monitor.specs.Calls.{certification_record, countersigned, certifying, striking}
use Rattle.monitor.specs.Calls.{Countersigns}
use Rattle.monitor.specs.MonitorState.{MonitorState, home_of as home, room_of, IsOpenOn}
use Rattle.monitor.specs.Slips.{posting_by}
use Rattle.monitor.specs.Stages.{may_work}
use Rattle.monitor.proofs.TestsPassed.{after_test, stops, admits}

-- a call that is refused before it changes anything
pub refused_by :
    (s : MonitorState) (r : Result ℕ Refusal) (w : Result (List Home) Refusal) (e : Refusal)
    → w ≡ Err e → r ≡ Err e → ChangesOrRefuses w s r s
refused_by s r w e is p =
    subst (λ (z : Result (List Home) Refusal). ChangesOrRefuses z s r s) (sym is)
    (record { answer = p; same = refl })

-- a countersignature that is refused by a test of its own: read is the slip as it was read
module _
    (m : Meaning) (s : MonitorState) (user : ℕ) (word : List ℕ) (slip read : SlipNumbers)
    (same : read ≡ slip) (note : IsNote read.numbers) (e : Refusal) (r : Result ℕ Refusal)
    (p : r ≡ Err e)
  where
    countersign_stopped :
        countersigned m s user word slip ≡ Err e → Countersigns m s user word slip r s
    countersign_stopped is =
        record {
          note = subst (λ (z : SlipNumbers). IsNote z.numbers) same note;
          changes = refused_by s r (countersigned m s user word slip) e is p;
        }

    -- at a stage that does not admit it
    pub countersign_shut : may_work s.stage ≡ Err e → Countersigns m s user word slip r s
    countersign_shut shut = countersign_stopped (stops (may_work s.stage) _ e (sym shut))

    module _
        (d : JournalState) (is_open : IsOpenOn s d) (k : Head) (head : k ≡ head_on (home_of d))
      where
        own_slip_is : own_slip m k.house read ≡ own_slip m (house_on (home s)) slip
        own_slip_is =
            ap (λ (z : Head). own_slip m z.house read) head
            ∙ ap (λ (z : JournalState). own_slip m (house_on (home_of z)) read) is_open.same
            ∙ ap (own_slip m (house_on (home s))) same

        -- the slip is another book's or house's
        pub countersign_foreign :
            Err e ≡ own_slip m k.house read → Countersigns m s user word slip r s
        countersign_foreign f =
            countersign_stopped
            (after_test (may_work s.stage) _ (admits s d is_open)
            ∙ stops (own_slip m (house_on (home s)) slip) _ e (f ∙ own_slip_is))

        -- the word is not the user's
        pub countersign_unknown :
            Ok tt ≡ own_slip m k.house read → Err e ≡ identified (home_of d) user word
            → Countersigns m s user word slip r s
        countersign_unknown own f =
            let known_as : Err e ≡ identified (home s) user word =
            f ∙ ap (λ (z : JournalState). identified (home_of z) user word) is_open.same in
            countersign_stopped
            (after_test (may_work s.stage) _ (admits s d is_open)
            ∙ after_test (own_slip m (house_on (home s)) slip) _ (own ∙ own_slip_is)
            ∙ stops (identified (home s) user word) _ e known_as)

-- an open monitor s, the state d of its journal and its head k, as they were read; the answer r,
-- and the monitor t that is left
module _
    (s : MonitorState) (d : JournalState) (is_open : IsOpenOn s d)
    (k : Head) (head : k ≡ head_on (home_of d))
    (r : Result ℕ Refusal) (t : MonitorState)
  where
    heads : k ≡ head_on (home s)
    heads = head ∙ ap (λ (z : JournalState). head_on (home_of z)) is_open.same

    -- a user who is known is known on the monitor's drive
    known_on :
        (user : ℕ) (word : List ℕ) → Ok tt ≡ identified (home_of d) user word
        → Ok tt ≡ identified (home s) user word
    known_on user word p =
        p ∙ ap (λ (z : JournalState). identified (home_of z) user word) is_open.same

    -- a call that applies the record x in a way f, on the books that were read
    module _ (f : ℕ → BookState → Result BookState Refusal) (x : Record) where
      abbrev given : Result BookState Refusal
      given = f (room (size d)) (state_with (home_of d) k.count)

      -- and what it wants of the monitor's drive
      abbrev wanted : Result (List Home) Refusal
      wanted = resulting_update (home s) x (f (room_of s) (state_on (home s)))

      same_given : f (room_of s) (state_on (home s)) ≡ given
      same_given =
          sym (ap (λ (z : JournalState). f (room (size z)) (state_on (home_of z))) is_open.same)
          ∙ sym (ap (λ (z : Head). f (room (size d)) (state_with (home_of d) z.count)) head)

      module _ (w : Result (List Home) Refusal) (is : w ≡ wanted) where
        -- it was applied, and the update of the record was made or lost power
        made :
            (a : BookState) → given ≡ Ok a → (y : Record) → y ≡ x
            → MakesChange (update_of k y a) s r t → ChangesOrRefuses w s r t
        made a g y same c =
            let applied : wanted ≡ Ok (update_of (head_on (home s)) x a) =
            ap (resulting_update (home s) x) (same_given ∙ g) in
            let headed : MakesChange (update_of (head_on (home s)) y a) s r t =
            subst (λ (z : Head). MakesChange (update_of z y a) s r t) heads c in
            let named : MakesChange (update_of (head_on (home s)) x a) s r t =
            subst (λ (z : Record). MakesChange (update_of (head_on (home s)) z a) s r t) same
            headed in
            subst (λ (z : Result (List Home) Refusal). ChangesOrRefuses z s r t)
            (sym (is ∙ applied))
            named

        -- it was refused
        refused : (e : Refusal) → given ≡ Err e → r ≡ Err e → ChangesOrRefuses w s r s
        refused e g p =
            refused_by s r w e (is ∙ ap (resulting_update (home s) x) (same_given ∙ g)) p

    -- a countersignature that passed its own tests is a posting: read is the slip as it was read
    module _
        (m : Meaning) (user : ℕ) (word : List ℕ) (slip read : SlipNumbers) (same : read ≡ slip)
        (note : IsNote read.numbers) (own : Ok tt ≡ own_slip m k.house read)
        (known : Ok tt ≡ identified (home_of d) user word)
      where
        abbrev posts : ℕ → BookState → Result BookState Refusal
        posts n b = posted m n b (posting_by slip user)

        countersigned_is :
            countersigned m s user word slip ≡ wanted posts (posting_record slip user)
        countersigned_is =
            let owned : Ok tt ≡ own_slip m (house_on (home s)) slip =
            own
            ∙ ap (λ (z : Head). own_slip m z.house read) heads
            ∙ ap (own_slip m (house_on (home s))) same in
            after_test (may_work s.stage) _ (admits s d is_open)
            ∙ after_test (own_slip m (house_on (home s)) slip) _ owned
            ∙ after_test (identified (home s) user word) _ (known_on user word known)

        noted : IsNote slip.numbers
        noted = subst (λ (z : SlipNumbers). IsNote z.numbers) same note

        pub countersign_made :
            (a : BookState) → given posts (posting_record slip user) ≡ Ok a
            → (p : PostingRecord) → p ≡ posting_by slip user
            → MakesChange (update_of k (Posting p) a) s r t
            → Countersigns m s user word slip r t
        countersign_made a g p is c =
            let made_of = made posts (posting_record slip user) _ countersigned_is in
            record { note = noted; changes = made_of a g (Posting p) (ap Posting is) c }

        pub countersign_refused :
            (e : Refusal) → given posts (posting_record slip user) ≡ Err e → r ≡ Err e
            → Countersigns m s user word slip r s
        countersign_refused e g p =
            let refused_of = refused posts (posting_record slip user) _ countersigned_is in
            record { note = noted; changes = refused_of e g p }

    -- a certification that passed the custodian's test
    module _
        (m : Meaning) (word : List ℕ) (draft : RowDraft)
        (known : Ok tt ≡ identified (home_of d) 0 word)
      where
        abbrev certifies : ℕ → BookState → Result BookState Refusal
        certifies n b = certified m n b draft

        certifying_is : certifying m s word draft ≡ wanted certifies (certification_record draft)
        certifying_is =
            after_test (may_work s.stage) _ (admits s d is_open)
            ∙ after_test (identified (home s) 0 word) _ (known_on 0 word known)

        pub certify_made :
            (a : BookState) → given certifies (certification_record draft) ≡ Ok a
            → (y : Record) → y ≡ certification_record draft → MakesChange (update_of k y a) s r t
            → ChangesOrRefuses (certifying m s word draft) s r t
        certify_made = made certifies (certification_record draft) _ certifying_is

        pub certify_refused :
            (e : Refusal) → given certifies (certification_record draft) ≡ Err e → r ≡ Err e
            → ChangesOrRefuses (certifying m s word draft) s r s
        certify_refused = refused certifies (certification_record draft) _ certifying_is

    -- and a strike
    module _ (word : List ℕ) (row : ℕ) (known : Ok tt ≡ identified (home_of d) 0 word) where
      abbrev strikes : ℕ → BookState → Result BookState Refusal
      strikes n b = struck n b row

      striking_is : striking s word row ≡ wanted strikes (Strike row)
      striking_is =
          after_test (may_work s.stage) _ (admits s d is_open)
          ∙ after_test (identified (home s) 0 word) _ (known_on 0 word known)

      pub strike_made :
          (a : BookState) → given strikes (Strike row) ≡ Ok a
          → MakesChange (update_of k (Strike row) a) s r t
          → ChangesOrRefuses (striking s word row) s r t
      strike_made a g c = made strikes (Strike row) _ striking_is a g (Strike row) refl c

      pub strike_refused :
          (e : Refusal) → given strikes (Strike row) ≡ Err e → r ≡ Err e
          → ChangesOrRefuses (striking s word row) s r s
      strike_refused = refused strikes (Strike row) _ striking_is
