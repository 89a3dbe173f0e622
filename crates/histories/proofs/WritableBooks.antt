-- Books that the book and the drive can stand by, and that they stay so when a record is applied.
use Rattle.std.proofs.Common.{◌≡◌, ◌≢◌, ℕ, ◌+◌, ◌^◌, ◌<◌, ◌≤◌, Bool, true, eqb, leb, ◌⊎◌, List, [], ◌∷◌, ◌++◌, length, get_or, set, replicate, Some, Ok, Err, Result, refl, sym, ap, ◌∙◌, subst, inl, inr, arith, not, if◌then◌else◌}
use Rattle.std.proofs.lemmas.List.{length-set, get_or-set_same, get_or-set_other, get_or_past}
use Rattle.std.proofs.lemmas.Bool.{cases_Bool, cases_eq, cases_lt, cond-false, le-leb, ne_eqb}
use Rattle.std.proofs.Math.ListN.{length-append}
use Rattle.lists.specs.Answers.{not_ok}
use Rattle.refusals.specs.declared.refusal.Refusal.{Refusal}
use Rattle.refusals.specs.Refused.{◌>>=◌, ◌>>◌}
use Rattle.refusals.specs.Laws.{accepted_after}
use Rattle.books.specs.Meaning.{Meaning, has_procedure, amount_ok, StepTests, StepGivesCodes}
use Rattle.books.specs.declared.draft.Draft.{Draft}
use Rattle.notes.specs.Notes.{noted, numbers_in}
use Rattle.rights.specs.Covers.{free}
use Rattle.rights.specs.declared.row.Row.{Row}
use Rattle.records.specs.declared.record.Posting.{Posting as PostingRecord}
use Rattle.records.specs.declared.record.Record.{Record}
use Rattle.records.specs.declared.record.Record.TheVariants.{Posting, Certification, Strike}
use Rattle.layout.specs.ReadBack.{CodesFit, RowsFit}
use Rattle.applying.specs.BookState.{BookState, opened, with_codes, with_row, after_step, effect, draft_of, row_of}
use Rattle.applying.specs.Rows.{row_draft_of}
use Rattle.applying.specs.Applied.{posted, applied, applied_all}
use Rattle.histories.specs.Law.{rows_after, EachByTwo, TwoPeople}
use Rattle.histories.specs.Tally.{Books, with_effect}
use Rattle.applying.specs.Applied.{enters, countersigns}
use Rattle.lists.specs.Elements.{all_set}
use Rattle.std.specs.List.{list_all}
use Rattle.histories.proofs.AppliedRecords.{row_executes, who_executes, Posted, posted_tells, RowSet, certified_tells, struck_tells}

-- 32 free rows
abbrev pub free_rows : List Row
free_rows = replicate 32 free

-- a list of 64 codes that the book allows and a drive can hold
pub record GoodCodes (m : Meaning) (codes : List ℕ) : Type 0 where
  pub valid : m.valid codes ≡ true
  pub long : length codes ≡ 64
  pub fit : CodesFit codes

-- 32 rows that a drive can hold
pub record GoodRows (rows : List Row) : Type 0 where
  pub long : length rows ≡ 32
  pub fit : RowsFit rows
  pub executes : list_all row_executes rows ≡ true

-- what holds of books that a drive can show
pub record Writable (m : Meaning) (most : ℕ) (t : Books) : Type 0 where
  pub opening : GoodCodes m t.opening
  pub items : GoodCodes m t.state.items
  pub rows : GoodRows t.state.rows
  pub records_applied : applied_all m most (opened t.opening) t.records ≡ Ok t.state
  pub every : t.state.count ≡ length t.records
  pub few : length t.records ≤ most
  pub rows_given : t.state.rows ≡ rows_after free_rows t.records
  pub by_two : EachByTwo t.records

-- the records' numbers are those of a note, or fit their row
abbrev pub Typed : Record → Type 0
Typed (Posting p) = (p.a < 64) × (p.b < 64) × (p.a ≢ p.b) × (p.amount < 2 ^ 64)
Typed (Certification c) = (c.row < 32) × (c.mask < 2 ^ 64)
Typed (Strike k) = k < 32

-- one record more, and one more test
applied_push :
    (m : Meaning) (most : ℕ) (xs : List Record) (x : Record) (s : BookState)
    → applied_all m most s (xs ++ (x ∷ [])) ≡ (applied_all m most s xs >>= λ u. applied m most u x)
applied_push m most [] x s = last (applied m most s x) where
  last : (r : Result BookState Refusal) → (r >>= λ t. Ok t) ≡ r
  last (Ok t) = refl
  last (Err e) = refl
applied_push m most (y ∷ xs) x s = onward (applied m most s y) (applied_push m most xs x) where
  onward :
      (r : Result BookState Refusal) → ((t : BookState) → applied_all m most t (xs ++ (x ∷ [])) ≡ (applied_all m most t xs >>= λ u. applied m most u x))
      → (r >>= λ t. applied_all m most t (xs ++ (x ∷ []))) ≡ ((r >>= λ t. applied_all m most t xs) >>= λ u. applied m most u x)
  onward (Ok t) f = f t
  onward (Err e) f = refl

rows_push : (xs : List Record) (x : Record) (rows : List Row) → rows_after rows (xs ++ (x ∷ [])) ≡ rows_after (rows_after rows xs) (x ∷ [])
rows_push [] x rows = refl
rows_push (Posting p ∷ xs) x rows = rows_push xs x rows
rows_push (Certification c ∷ xs) x rows = rows_push xs x _
rows_push (Strike k ∷ xs) x rows = rows_push xs x _

-- where a record stands among others and one more
abbrev Among : {X : Type 0} → List X → X → List X → X → List X → Type 0
Among xs x before p after = ((after ≡ []) × (xs ≡ before) × (x ≡ p)) ⊎ ((ys : _) × (xs ≡ before ++ (p ∷ ys)))

-- an empty list has no element
pub no_tail : {X A : Type 0} (x : X) (xs ys : List X) → [] ≡ xs ++ (x ∷ ys) → A
no_tail x [] ys e = cc
no_tail x (y ∷ xs) ys e = cc

pub split_last : {X : Type 0} (xs : List X) (x : X) (before : List X) (p : X) (after : List X) → xs ++ (x ∷ []) ≡ before ++ (p ∷ after) → Among xs x before p after
split_last [] x [] p after e = inl (cc, refl, cc)
split_last [] x (b ∷ before) p after e = no_tail p before after cc
split_last (y ∷ xs) x [] p after e = inr (xs, cc)
split_last (y ∷ xs) x (b ∷ before) p after e =
    elim (split_last xs x before p after cc) [ inl w ↦ inl (w.0, (let same = w.1 in cc), w.2) | inr w ↦ inr (w.0, (let same = w.1 in cc)) ]

-- two people stand behind a record if it is a posting
abbrev TwoIf : List Row → Record → Type 0
TwoIf rows (Posting p) = TwoPeople rows p
TwoIf rows (Certification c) = Unit {0}
TwoIf rows (Strike k) = Unit {0}

-- one record more, with two people behind it if it is a posting
by_two_more : (xs : List Record) (x : Record) → EachByTwo xs → TwoIf (rows_after free_rows xs) x → EachByTwo (xs ++ (x ∷ []))
by_two_more xs x f g before after p q =
    elim (split_last xs x before (Posting p) after q) [
      | inl w ↦ subst (λ z. TwoPeople (rows_after free_rows z) p) w.1 (subst (TwoIf (rows_after free_rows xs)) w.2 g)
      | inr w ↦ f before w.0 p w.1
    ]

fit_set : (xs : List ℕ) (k x : ℕ) → CodesFit xs → x < 2 ^ 64 → CodesFit (set xs k x)
fit_set xs k x f h i =
    elim (cases_eq i k) [
      | inl e ↦ elim (cases_lt k (length xs)) [
        | inl l ↦ omega (arith, ap (λ j. get_or (set xs k x) j 0) e, get_or-set_same xs k x 0 l)
        | inr l ↦ omega (arith, get_or_past (set xs k x) i 0 (omega (arith, length-set xs k x)))
      ]
      | inr n ↦ omega (arith, get_or-set_other xs k i x 0 n, f i)
    ]

rows_set : (rows : List Row) (k : ℕ) (w : Row) → GoodRows rows → k ≤ 31 → w.mask < 2 ^ 64 → row_executes w ≡ true → GoodRows (set rows k w)
rows_set rows k w g low fit who =
    record {
      long = length-set rows k w ∙ g.long;
      fit = λ i. elim (cases_eq i k) [
        | inl e ↦ subst (λ (v : Row). v.mask < 2 ^ 64) (sym (ap (λ j. get_or (set rows k w) j free) e ∙ get_or-set_same rows k w free (omega (arith, g.long)))) fit
        | inr n ↦ subst (λ (v : Row). v.mask < 2 ^ 64) (sym (get_or-set_other rows k i w free n)) (g.fit i)
      ];
      executes = all_set row_executes rows k w who g.executes;
    }

module _ (m : Meaning) (most : ℕ) (t : Books) (g : Writable m most t) where
  -- one record more
  one_more :
      (x : Record) (s : BookState) → applied m most t.state x ≡ Ok s → TwoIf (rows_after free_rows t.records) x → t.state.count < most
      → s.count ≡ t.state.count + 1 → GoodCodes m s.items → GoodRows s.rows → s.rows ≡ rows_after t.state.rows (x ∷ [])
      → Writable m most (with_effect t x (Some s))
  one_more x s c two room count items rows given =
      let longer : length (t.records ++ (x ∷ [])) ≡ length t.records + 1 = length-append t.records (x ∷ []) in
      record {
        opening = g.opening;
        items = items;
        rows = rows;
        records_applied = applied_push m most t.records x (opened t.opening) ∙ ap (λ z. z >>= λ u. applied m most u x) g.records_applied ∙ c;
        every = omega (arith, g.every);
        few = omega (arith, g.every);
        rows_given = given ∙ ap (λ z. rows_after z (x ∷ [])) g.rows_given ∙ sym (rows_push t.records x free_rows);
        by_two = by_two_more t.records x g.by_two two;
      }

  -- a row filled or freed
  row_more :
      (x : Record) (k : ℕ) (w : Row) (s : BookState) → applied m most t.state x ≡ Ok s → TwoIf (rows_after free_rows t.records) x → RowSet most t.state k w s → w.mask < 2 ^ 64
      → rows_after t.state.rows (x ∷ []) ≡ set t.state.rows k w → Writable m most (with_effect t x (Some s))
  row_more x k w s c two r fit rows =
      let is : s ≡ with_row t.state k w = r.is in
      one_more x s c two r.had_room (ap (λ (z : BookState). z.count) is)
      (subst (λ (z : BookState). GoodCodes m z.items) (sym is) g.items)
      (subst (λ (z : BookState). GoodRows z.rows) (sym is) (rows_set t.state.rows k w g.rows r.row_low fit r.executes))
      (ap (λ (z : BookState). z.rows) is ∙ sym rows)

  -- two codes replaced
  posting_more :
      StepGivesCodes m → (p : PostingRecord) (s : BookState) → applied m most t.state (Posting p) ≡ Ok s → Posted m most t.state p s
      → Writable m most (with_effect t (Posting p) (Some s))
  posting_more gives p s c f =
      let is : s ≡ with_codes t.state p.a p.b f.codes = f.is in
      let once : List ℕ = set t.state.items p.a f.codes.0 in
      let fit = gives (draft_of p) _ f.codes.0 f.codes.1 (g.items.fit p.a) (g.items.fit p.b) f.stepped in
      let people : TwoPeople t.state.rows p = record {
        different = f.different;
        enterer_executes = who_executes t.state.rows (enters p) p.a g.rows.executes f.enterer.0;
        countersigner_executes = who_executes t.state.rows (countersigns p) p.a g.rows.executes f.countersigner.0;
        enterer = f.enterer;
        countersigner = f.countersigner;
      } in
      one_more (Posting p) s c (subst (λ z. TwoPeople z p) g.rows_given people) f.had_room (ap (λ (z : BookState). z.count) is)
      (record {
        valid = f.valid;
        long = ap (λ (z : BookState). length z.items) is ∙ length-set once p.b f.codes.1 ∙ length-set t.state.items p.a f.codes.0 ∙ g.items.long;
        fit = subst (λ (z : BookState). CodesFit z.items) (sym is) (fit_set once p.b f.codes.1 (fit_set t.state.items p.a f.codes.0 g.items.fit fit.0) fit.1);
      })
      (subst (λ (z : BookState). GoodRows z.rows) (sym is) g.rows)
      (ap (λ (z : BookState). z.rows) is)

-- a record that was applied has its effect, and leaves a writable tally
pub record Made (m : Meaning) (most : ℕ) (t : Books) (x : Record) (s : BookState) : Type 0 where
  pub effects : effect m t.state x ≡ Some s
  pub had_room : t.state.count < most
  pub writable : Writable m most (with_effect t x (Some s))

pub writable_made : (m : Meaning) (most : ℕ) → StepGivesCodes m → (t : Books) (x : Record) (s : BookState) → Writable m most t → Typed x → applied m most t.state x ≡ Ok s → Made m most t x s
writable_made m most gives t (Posting p) s g y k =
    let f = posted_tells m most t.state p s (accepted_after (noted m (draft_of p)) (posted m most t.state p) s k).2 in
    record {
      effects = ap (after_step t.state p.a p.b) f.stepped ∙ ap Some (sym f.is);
      had_room = f.had_room;
      writable = posting_more m most t g gives p s k f;
    }
writable_made m most gives t (Certification c) s g y k =
    let f = certified_tells m most t.state (row_draft_of c) s k in
    record {
      effects = ap Some (sym f.is);
      had_room = f.had_room;
      writable = row_more m most t g (Certification c) c.row (row_of c) s k tt f y.1 refl;
    }
writable_made m most gives t (Strike k) s g y c =
    let f = struck_tells most t.state k s c in
    record {
      effects = ap Some (sym f.is);
      had_room = f.had_room;
      writable = row_more m most t g (Strike k) k free s c tt f (omega arith) refl;
    }

-- an answer behind a test that is passed
goes_on : {X : Type 0} (t : Bool) (e : Refusal) (r : Result X Refusal) → t ≡ true → (if not t then Err e else r) ≡ r
goes_on t e r h = ap (λ z. if not z then Err e else r) h

-- the step takes a note's numbers alone
noted_ok :
    (m : Meaning) (d : Draft) (before after : ℕ × ℕ) → StepTests m → d.a < 64 → d.b < 64 → (d.a ≢ d.b) → m.step d before ≡ Ok after
    → noted m d ≡ Ok (numbers_in m d)
noted_ok m d before after tests la lb ne h =
    goes_on (has_procedure m d.procedure) _ _ (elim (cases_Bool (has_procedure m d.procedure)) [ inl t ↦ t | inr f ↦ not_ok after _ (sym h ∙ tests.needs_word d before f) ])
    ∙ goes_on (leb d.a 63) _ _ (le-leb d.a 63 (omega arith))
    ∙ goes_on (leb d.b 63) _ _ (le-leb d.b 63 (omega arith))
    ∙ cond-false (eqb d.b d.a) _ _ (ne_eqb d.b d.a (λ q. ne (sym q)))
    ∙ goes_on (amount_ok m.ceiling d.amount) _ _ (elim (cases_Bool (amount_ok m.ceiling d.amount)) [
      | inl t ↦ t
      | inr f ↦ elim (tests.needs_amount d before f) [ inl q ↦ not_ok after _ (sym h ∙ q) | inr q ↦ not_ok after _ (sym h ∙ q) ]
    ])

-- a posting of a note is applied
pub applied_posting :
    (m : Meaning) (most : ℕ) (s u : BookState) (p : PostingRecord) → StepTests m → p.a < 64 → p.b < 64 → (p.a ≢ p.b)
    → posted m most s p ≡ Ok u → applied m most s (Posting p) ≡ Ok u
applied_posting m most s u p tests la lb ne k =
    let f = posted_tells m most s p u k in
    ap (λ z. z >> posted m most s p) (noted_ok m (draft_of p) _ f.codes tests la lb ne f.stepped) ∙ k
