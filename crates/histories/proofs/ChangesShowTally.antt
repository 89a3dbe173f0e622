-- What countersign, certify and strike want on an open monitor's drive, and what their records make
-- of it.
use Rattle.std.proofs.Common.{◌≡◌, ℕ, ◌^◌, ◌<◌, ◌&&◌, eqb, List, [], ◌∷◌, Some, Ok, Err, Result, refl, sym, ap, ◌∙◌, arith, not, true}
use Rattle.std.proofs.lemmas.Option.{same_Some}
use Rattle.lists.specs.Answers.{not_ok, same_ok}
use Rattle.refusals.specs.declared.refusal.Refusal.{Refusal}
use Rattle.refusals.specs.declared.places.StepPlace.{StepPlace}
use Rattle.refusals.specs.Laws.{accepted_after}
use Rattle.refusals.specs.Refused.{◌>>◌}
use Rattle.books.specs.Meaning.{Meaning, StepTests}
use Rattle.notes.specs.Notes.{IsNote}
use Rattle.changes.specs.declared.home.Home.{Home}
use Rattle.journals.specs.Outcomes.{home_with}
use Rattle.journals.specs.JournalState.{JournalState, size, home_of}
use Rattle.rights.specs.Covers.{free}
use Rattle.records.specs.declared.record.Record.{Record}
use Rattle.records.specs.declared.record.Record.TheVariants.{Posting, Certification, Strike}
use Rattle.applying.specs.BookState.{BookState, with_codes, with_row, step_on, after_step, draft_of, row_of}
use Rattle.applying.specs.Applied.{posting_of, posted, applied}
use Rattle.applying.specs.Rows.{certified, struck}
use Rattle.applying.specs.declared.row_draft.RowDraft.{RowDraft}
use Rattle.image.specs.Home.{head_on, house_on, state_on}
use Rattle.image.specs.Layout.{lawful_size, room}
use Rattle.image.specs.Reading.{is_word_on}
use Rattle.monitor.specs.declared.slip_numbers.SlipNumbers.{SlipNumbers}
use Rattle.monitor.specs.declared.stage.Stage.TheVariants.{Open}
use Rattle.monitor.specs.Asking.{identified}
use Rattle.monitor.specs.Calls.{own_slip, posting_record, countersigned, certification_record, certifying, striking}
use Rattle.updates.specs.Update.{update_of, item_homes, row_home, resulting_update}
use Rattle.monitor.specs.MonitorState.{monitor_with}
use Rattle.histories.specs.Tally.{Books, with_effect}
use Rattle.histories.proofs.AppliedRecords.{certified_tells, struck_tells}
use Rattle.histories.proofs.WritableBooks.{Writable, Made, Typed, applied_posting}
use Rattle.histories.proofs.TallyInvariant.{Working, Wants}
use Rattle.histories.proofs.NoFalsePowerLoss.{Clean, clean_ok, clean_if, clean_after, clean_posted, clean_certified, clean_struck, clean_wanted}
use Rattle.histories.proofs.HomeShowsTally.{Shown, shows_standing, shows_next, item_parts, row_parts}

-- what was wanted is the change of what was applied
wanted_is : (h : List (List ℕ)) (x : Record) (r : Result BookState Refusal) (p : List Home) → resulting_update h x r ≡ Ok p → (u : BookState) × (r ≡ Ok u) × (p ≡ update_of (head_on h) x u)
wanted_is h x (Ok u) p e = (u, refl, sym (same_ok _ p e))
wanted_is h x (Err f) p e = not_ok p f (sym e)

-- a step that gave something gave two codes
stepped_is : (s : BookState) (a b : ℕ) (r : Result (ℕ × ℕ) StepPlace) (u : BookState) → after_step s a b r ≡ Some u → (codes : ℕ × ℕ) × (u ≡ with_codes s a b codes)
stepped_is s a b (Ok codes) u e = (codes, cc)
stepped_is s a b (Err f) u e = cc

clean_known : (h : List (List ℕ)) (user : ℕ) (word : List ℕ) → Clean (identified h user word)
clean_known h user word = clean_if (not (is_word_on h user word)) _ _ _ refl (clean_ok tt)

clean_own : (m : Meaning) (house : ℕ) (slip : SlipNumbers) → Clean (own_slip m house slip)
clean_own m house slip = clean_if (not (eqb slip.numbers.kind m.kind && eqb slip.house house)) _ _ _ refl (clean_ok tt)

module _ (m : Meaning) (b : Books) (d : JournalState) (fits : lawful_size (size d) ≡ true) (g : Writable m (room (size d)) b) (k : Working m b d) where
  abbrev h : List (List ℕ)
  h = home_of d

  -- behind a test, the same is wanted
  wants_after : (x : Record) (test : Result (Unit {0}) Refusal) (w : Result (List Home) Refusal) → Clean test → Wants m b d x w → Wants m b d x (test >> w)
  wants_after x test w c v =
      record { clean = clean_after test w c v.clean; records_applied = λ p e. v.records_applied p (accepted_after test w p e).2 }

  -- a record that is applied in this way
  wants_made :
      (x : Record) (way : BookState → Result BookState Refusal) → Clean (way (state_on h))
      → ((u : BookState) → way b.state ≡ Ok u → (applied m (room (size d)) b.state x ≡ Ok u) × Typed x)
      → Wants m b d x (resulting_update h x (way (state_on h)))
  wants_made x way c f =
      record {
        clean = clean_wanted h x (way (state_on h)) c;
        records_applied = λ p e. (
            let w = wanted_is h x (way (state_on h)) p e in
            let v = f w.0 (sym (ap way (shows_standing m (room (size d)) b h g k.shows)) ∙ w.1) in
            (w.0, v.0, w.2, v.1));
      }

  pub countersigned_wants : StepTests m → (user : ℕ) (word : List ℕ) (slip : SlipNumbers) → IsNote slip.numbers → Wants m b d (posting_record slip user) (countersigned m (monitor_with Open d) user word slip)
  countersigned_wants tests user word slip note =
      let x = posting_record slip user in
      let p = posting_of slip.numbers slip.enterer user in
      let la : p.a < 64 = omega (arith, note.a_within) in
      let lb : p.b < 64 = omega (arith, note.b_within) in
      wants_after x (own_slip m (house_on h) slip) _ (clean_own m (house_on h) slip)
      (wants_after x (identified h user word) _ (clean_known h user word)
      (wants_made x (λ s. posted m (room (size d)) s p) (clean_posted m (room (size d)) (state_on h) p)
      (λ u e. (applied_posting m (room (size d)) b.state u p tests la lb note.apart e, (la, lb, note.apart, omega (arith, note.amount_within))))))

  pub certifying_wants : (word : List ℕ) (asked : RowDraft) → asked.mask < 2 ^ 64 → Wants m b d (certification_record asked) (certifying m (monitor_with Open d) word asked)
  certifying_wants word asked small =
      let x = certification_record asked in
      wants_after x (identified h 0 word) _ (clean_known h 0 word)
      (wants_made x (λ s. certified m (room (size d)) s asked) (clean_certified m (room (size d)) (state_on h) asked)
      (λ u e. (e, (omega (arith, (certified_tells m (room (size d)) b.state asked u e).row_low), small))))

  pub striking_wants : (word : List ℕ) (row : ℕ) → Wants m b d (Strike row) (striking (monitor_with Open d) word row)
  striking_wants word row =
      wants_after (Strike row) (identified h 0 word) _ (clean_known h 0 word)
      (wants_made (Strike row) (λ s. struck (room (size d)) s row) (clean_struck (room (size d)) (state_on h) row)
      (λ u e. (e, omega (arith, (struck_tells (room (size d)) b.state row u e).row_low))))

  -- what each kind of record makes of the home blocks
  pub shows_after : (x : Record) (u : BookState) → Typed x → Made m (room (size d)) b x u → Shown m (with_effect b x (Some u)) (home_with (update_of (head_on h) x u) d)
  shows_after (Posting p) u y q =
      let s = stepped_is b.state p.a p.b (step_on m b.state (draft_of p)) u q.effects in
      shows_next m b d fits g k.shows (Posting p) u (item_homes u p.a p.b) y.3 q.had_room
      (item_parts b.state u p.a p.b s.0.0 s.0.1 y.0 y.1 (ap (λ (z : BookState). z.items) s.1) (ap (λ (z : BookState). z.rows) s.1))
  shows_after (Certification c) u y q =
      let is : u ≡ with_row b.state c.row (row_of c) = sym (same_Some _ _ q.effects) in
      shows_next m b d fits g k.shows (Certification c) u (row_home u c.row ∷ []) y.1 q.had_room
      (row_parts b.state u c.row (row_of c) y.0 (ap (λ (z : BookState). z.items) is) (ap (λ (z : BookState). z.rows) is))
  shows_after (Strike l) u y q =
      let is : u ≡ with_row b.state l free = sym (same_Some _ _ q.effects) in
      shows_next m b d fits g k.shows (Strike l) u (row_home u l ∷ []) tt q.had_room
      (row_parts b.state u l free y (ap (λ (z : BookState). z.items) is) (ap (λ (z : BookState). z.rows) is))
