-- Home blocks that show a tally, and that they show the next one after the change of its record.
use Rattle.std.proofs.Common.{◌≡◌, ◌≢◌, ℕ, suc, ◌+◌, ◌/◌, ◌<◌, ◌≤◌, min, max, Bool, true, false, eqb, List, [], ◌∷◌, ◌++◌, map, length, get_or, set, Some, refl, sym, ap, ◌∙◌, subst, inl, inr, arith, if◌then◌else◌}
use Rattle.std.specs.List.{range_with_len, flat_map}
use Rattle.std.proofs.lemmas.List.{ext_get_or, length_push}
use Rattle.std.proofs.lemmas.Bool.{cases_eq, cases_lt, eqb-true, eqb-false}
use Rattle.books.specs.Meaning.{Meaning}
use Rattle.changes.specs.declared.home.Home.{Home}
use Rattle.journals.specs.Outcomes.{home_with}
use Rattle.journals.specs.JournalState.{JournalState, size, home_of}
use Rattle.rights.specs.declared.row.Row.{Row}
use Rattle.records.specs.declared.record.Record.{Record}
use Rattle.records.specs.Form.{encoded, FitsRecord, Exact}
use Rattle.layout.specs.declared.head.Head.{Head}
use Rattle.layout.specs.Codes.{codes_of}
use Rattle.layout.specs.Head.{head_form, HeadForm}
use Rattle.layout.specs.Laws.{fields_back}
use Rattle.layout.specs.Rows.{rows_of}
use Rattle.applying.specs.BookState.{BookState, opened}
use Rattle.applying.specs.Applied.{applied_all}
use Rattle.image.specs.declared.part.Part.TheVariants.{Items, Opening, Rows}
use Rattle.image.specs.Home.{block_at, blocks_at, part_on, head_on, items_on, opening_on, rows_on, count_on, record_on, records_on, state_on, blocks_of_codes, blocks_of_rows}
use Rattle.image.specs.Layout.{head_block, record_block, lawful_size, room}
use Rattle.image.specs.Lawful.{StandFrom, LawfulHome}
use Rattle.image.specs.Laws.{read_exact, block_of, length-blocks, size_low, size_high}
use Rattle.updates.specs.Update.{counted, head_home, item_home, item_homes, row_home, record_home}
use Rattle.histories.specs.Tally.{Books, with_effect}
use Rattle.histories.proofs.BlocksReadBack.{codes_back, rows_back, code_elsewhere, row_elsewhere}
use Rattle.histories.proofs.WritableBooks.{Writable}
use Rattle.histories.proofs.HomeWithChange.{Rises, Misses, Stand, misses_above, moved}

-- home blocks show books: a head of this book that counts the records, the parts, and the records
pub record Shown (m : Meaning) (t : Books) (h : List (List ℕ)) : Type 0 where
  pub head : Head
  pub head_stands : HeadForm head (block_at h head_block)
  pub own_kind : head.kind ≡ m.kind
  pub counts : head.count ≡ length t.records
  pub items : part_on h Items ≡ blocks_of_codes t.state.items
  pub opening : part_on h Opening ≡ blocks_of_codes t.opening
  pub rows : part_on h Rows ≡ blocks_of_rows t.state.rows
  pub records : StandFrom h 1 t.records

-- the records that stand from number k on are read
records_read : (h : List (List ℕ)) (k : ℕ) (xs : List Record) → StandFrom h k xs → map (record_on h) (range_with_len k (length xs)) ≡ map Some xs
records_read h k [] f = refl
records_read h k (x ∷ xs) f =
    let here : record_on h k ≡ Some x = read_exact k x (block_at h (record_block k)) f.0 in
    let up : suc k ≡ k + 1 = omega arith in
    let rest = records_read h (k + 1) xs (subst (λ j. StandFrom h j xs) up f.1) in
    ap (λ z. z ∷ map (record_on h) (range_with_len (k + 1) (length xs))) here ∙ ap (λ z. Some x ∷ z) rest

module _ (m : Meaning) (most : ℕ) (t : Books) (h : List (List ℕ)) (g : Writable m most t) (s : Shown m t h) where
  pub shows_head : head_on h ≡ s.head
  shows_head = fields_back s.head (block_at h head_block) s.head_stands

  pub shows_count : count_on h ≡ length t.records
  shows_count = ap (λ (z : Head). z.count) shows_head ∙ s.counts

  pub shows_items : items_on h ≡ t.state.items
  shows_items = ap (flat_map codes_of) s.items ∙ codes_back t.state.items g.items.long g.items.fit

  pub shows_opening : opening_on h ≡ t.opening
  shows_opening = ap (flat_map codes_of) s.opening ∙ codes_back t.opening g.opening.long g.opening.fit

  pub shows_rows : rows_on h ≡ t.state.rows
  shows_rows = ap (flat_map rows_of) s.rows ∙ rows_back t.state.rows g.rows.long g.rows.fit

  pub shows_records : records_on h ≡ map Some t.records
  shows_records = ap (λ n. map (record_on h) (range_with_len 1 n)) shows_count ∙ records_read h 1 t.records s.records

  pub shows_standing : state_on h ≡ t.state
  shows_standing = standing_same shows_items shows_rows (shows_count ∙ sym g.every) where
    standing_same : {a b : List ℕ} {p q : List Row} {k l : ℕ} → a ≡ b → p ≡ q → k ≡ l → ◌≡◌ {A = BookState} (record { items = a; rows = p; count = k }) (record { items = b; rows = q; count = l })
    standing_same e f i = cc

  -- they are lawful
  pub shows_lawful : LawfulHome m most h
  shows_lawful =
      record {
        head = s.head;
        head_stands = s.head_stands;
        own_kind = s.own_kind;
        found_room = omega (arith, s.counts, g.few);
        valid_opening = ap m.valid shows_opening ∙ g.opening.valid;
        records = t.records;
        every_record = sym s.counts;
        records_stand = s.records;
        after = t.state;
        records_applied = ap (λ z. applied_all m most (opened z) t.records) shows_opening ∙ g.records_applied;
        items_found = s.items;
        rows_found = s.rows;
      }

-- eight blocks, block by block
eight_are : (h : List (List ℕ)) (k : ℕ) (bs : List (List ℕ)) → length bs ≡ 8 → ((j : ℕ) → j < 8 → block_at h (k + j) ≡ get_or bs j []) → blocks_at h k 8 ≡ bs
eight_are h k bs l f =
    ext_get_or [] (blocks_at h k 8) bs (length-blocks h k 8 ∙ sym l)
    (λ j q. let low : j < 8 = omega (arith, length-blocks h k 8) in block_of h k 8 j low ∙ f j low)

eight_same : (h i : List (List ℕ)) (k : ℕ) → ((j : ℕ) → j < 8 → block_at i (k + j) ≡ block_at h (k + j)) → blocks_at i k 8 ≡ blocks_at h k 8
eight_same h i k f = eight_are i k (blocks_at h k 8) (length-blocks h k 8) (λ j l. f j l ∙ sym (block_of h k 8 j l))

-- the records before stand as they did, and one more behind them
stand_push :
    (h i : List (List ℕ)) (k n : ℕ) (xs : List Record) (x : Record) → k + length xs ≡ n → StandFrom h k xs
    → ((l : ℕ) → k ≤ l → l < n → block_at i (record_block l) ≡ block_at h (record_block l)) → Exact n x (block_at i (record_block n)) → StandFrom i k (xs ++ (x ∷ []))
stand_push h i k n [] x l f same e =
    let here : n ≡ k = omega arith in
    (subst (λ j. Exact j x (block_at i (record_block j))) here e, tt)
stand_push h i k n (y ∷ xs) x l f same e = (
  subst (λ c. Exact k y c) (sym (same k (omega arith) (omega arith))) f.0,
  stand_push h i (suc k) n xs x (omega arith) f.1 (λ j a b. same j (omega arith) b) e,
)

-- block j of the codes, and of the rows, stands
abbrev CodesStand : BookState → List (List ℕ) → ℕ → Type 0
CodesStand u h j = block_at h (8 + j) ≡ get_or (blocks_of_codes u.items) j []

abbrev RowsStand : BookState → List (List ℕ) → ℕ → Type 0
RowsStand u h j = block_at h (24 + j) ≡ get_or (blocks_of_rows u.rows) j []

-- homes which, written over blocks that show the items and rows of t, leave blocks that show those
-- of u
pub record Parts (t u : BookState) (xs : List Home) : Type 0 where
  pub rises : Rises 7 32 xs
  pub opening : (j : ℕ) → j < 8 → Misses (16 + j) xs
  pub items : (i : List (List ℕ)) → Stand i xs → (j : ℕ) → j < 8 → (Misses (8 + j) xs → CodesStand t i j) → CodesStand u i j
  pub rows : (i : List (List ℕ)) → Stand i xs → (j : ℕ) → j < 8 → (Misses (24 + j) xs → RowsStand t i j) → RowsStand u i j

-- the block of a row
pub row_parts : (t u : BookState) (k : ℕ) (w : Row) → k < 32 → u.items ≡ t.items → u.rows ≡ set t.rows k w → Parts t u (row_home u k ∷ [])
row_parts t u k w l items rows =
    record {
      rises = (omega arith, omega arith, tt);
      opening = λ j q. ((λ e. omega arith), tt);
      items = λ i s j q f. f ((λ e. omega arith), tt) ∙ sym (ap (λ z. get_or (blocks_of_codes z) j []) items);
      rows = λ i s j q f. elim (cases_eq (k / 4) j) [
        | inl e ↦ subst (λ z. RowsStand u i z) e s.0
        | inr ne ↦ f ((λ e. ne (omega arith)), tt) ∙ sym (ap (λ z. get_or (blocks_of_rows z) j []) rows ∙ row_elsewhere t.rows k j w q ne)
      ];
    }

-- the blocks of two items
record ItemHomes (u : BookState) (a b : ℕ) (xs : List Home) : Type 0 where
  pub rises : Rises 7 16 xs
  pub misses : (k : ℕ) → (8 + a / 8 ≢ k) → (8 + b / 8 ≢ k) → Misses k xs
  pub stand : (i : List (List ℕ)) → Stand i xs → CodesStand u i (a / 8) × CodesStand u i (b / 8)

homes_of_items :
    (u : BookState) (a b : ℕ) → a < 64 → b < 64 → (t : Bool) → eqb (a / 8) (b / 8) ≡ t
    → ItemHomes u a b (if t then item_home u (min a b) ∷ [] else (item_home u (min a b) ∷ (item_home u (max a b) ∷ [])))
homes_of_items u a b la lb true e =
    let same : a / 8 ≡ b / 8 = eqb-true (a / 8) (b / 8) e in
    let at_a : min a b / 8 ≡ a / 8 = omega arith in
    record {
      rises = (omega arith, omega arith, tt);
      misses = λ k na nb. ((λ z. omega arith), tt);
      stand = λ i s. (let here = subst (λ z. CodesStand u i z) at_a s.0 in (here, subst (λ z. CodesStand u i z) same here));
    }
homes_of_items u a b la lb false e =
    let apart = eqb-false (a / 8) (b / 8) e in
    record {
      rises = (omega arith, omega arith, (omega arith, omega arith, tt));
      misses = λ k na nb. ((λ z. omega arith), ((λ z. omega arith), tt));
      stand = λ i s. elim (cases_lt a b) [
        | inl l ↦ (subst (λ z. CodesStand u i z) (omega arith) s.0, subst (λ z. CodesStand u i z) (omega arith) s.1.0)
        | inr l ↦ (subst (λ z. CodesStand u i z) (omega arith) s.1.0, subst (λ z. CodesStand u i z) (omega arith) s.0)
      ];
    }

rises_wider : (xs : List Home) (low n k : ℕ) → n ≤ k → Rises low n xs → Rises low k xs
rises_wider [] low n k l r = tt
rises_wider (x ∷ xs) low n k l r = (r.0, omega (arith, r.1), rises_wider xs x.number n k l r.2)

pub item_parts :
    (t u : BookState) (a b x y : ℕ) → a < 64 → b < 64 → u.items ≡ set (set t.items a x) b y → u.rows ≡ t.rows → Parts t u (item_homes u a b)
item_parts t u a b x y la lb items rows =
    let v = homes_of_items u a b la lb (eqb (a / 8) (b / 8)) refl in
    record {
      rises = rises_wider (item_homes u a b) 7 16 32 (omega arith) v.rises;
      opening = λ j q. misses_above (item_homes u a b) 7 16 (16 + j) (omega arith) v.rises;
      items = λ i s j q f. (let w = v.stand i s in elim (cases_eq (a / 8) j) [
        | inl e ↦ subst (λ z. CodesStand u i z) e w.0
        | inr na ↦ elim (cases_eq (b / 8) j) [
          | inl e ↦ subst (λ z. CodesStand u i z) e w.1
          | inr nb ↦ f (v.misses (8 + j) (λ z. na (omega arith)) (λ z. nb (omega arith)))
              ∙ sym (ap (λ z. get_or (blocks_of_codes z) j []) items ∙ code_elsewhere (set t.items a x) b j y q nb ∙ code_elsewhere t.items a j x q na)
        ]
      ]);
      rows = λ i s j q f. f (misses_above (item_homes u a b) 7 16 (24 + j) (omega arith) v.rises) ∙ sym (ap (λ z. get_or (blocks_of_rows z) j []) rows);
    }

-- home blocks that show a tally show the next one after the change of its record
module _ (m : Meaning) (t : Books) (d : JournalState) (fits : lawful_size (size d) ≡ true) (g : Writable m (room (size d)) t) (s : Shown m t (home_of d)) where
  abbrev h : List (List ℕ)
  h = home_of d

  pub shows_next :
      (x : Record) (u : BookState) (xs : List Home) → FitsRecord x → t.state.count < room (size d) → Parts t.state u xs
      → Shown m (with_effect t x (Some u)) (home_with (head_home (head_on h) ∷ (xs ++ (record_home (count_on h) x ∷ []))) d)
  shows_next x u xs form more p =
      let count : count_on h ≡ length t.records = shows_count m (room (size d)) t h g s in
      let last : Home = record_home (count_on h) x in
      let i = home_with (head_home (head_on h) ∷ (xs ++ (last ∷ []))) d in
      let v = moved d (head_form (counted (head_on h))) xs last p.rises (omega arith) (omega (arith, g.every, size_low (size d) fits)) in
      let number : count_on h + 1 ≡ length t.records + 1 = ap (λ n. n + 1) count in
      record {
        head = counted s.head;
        head_stands = record {
          some_house = s.head_stands.some_house;
          house_fits = s.head_stands.house_fits;
          count_fits = omega (arith, s.counts, g.every, size_high (size d) fits);
          form = ap (λ z. head_form (counted z)) (sym (shows_head m (room (size d)) t h g s)) ∙ sym v.heads;
        };
        own_kind = s.own_kind;
        counts = omega (arith, s.counts, length_push t.records x);
        items = eight_are i 8 (blocks_of_codes u.items) refl (λ j q. p.items i v.blocks j q
            (λ z. v.others (8 + j) (omega arith) z (λ e. omega arith) ∙ sym (block_of h 8 8 j q) ∙ ap (λ b. get_or b j []) s.items));
        opening = eight_same h i 16 (λ j q. v.others (16 + j) (omega arith) (p.opening j q) (λ e. omega arith)) ∙ s.opening;
        rows = eight_are i 24 (blocks_of_rows u.rows) refl (λ j q. p.rows i v.blocks j q
            (λ z. v.others (24 + j) (omega arith) z (λ e. omega arith) ∙ sym (block_of h 24 8 j q) ∙ ap (λ b. get_or b j []) s.rows));
        records = stand_push h i 1 (length t.records + 1) t.records x (omega arith) s.records
            (λ l a b. v.others (record_block l) (omega arith) (misses_above xs 7 32 (record_block l) (omega arith) p.rises) (λ e. omega arith))
            (record { fits = form; form = subst (λ n. encoded n x ≡ block_at i (record_block n)) number (sym v.enters) });
      }
