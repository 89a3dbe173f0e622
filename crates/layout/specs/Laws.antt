-- What proofs elsewhere cite: what is written in a block is read back, and a block is the form of
-- what is read from it.
use Rattle.std.proofs.Common.{◌≡◌, MatchOption, Option, ℕ, ◌+◌, ◌-◌, ◌*◌, ◌^◌, ◌<◌, ◌≤◌, Bool, true, false, eqb, List, [], ◌∷◌, ◌++◌, map, length, get_or, take, drop, Some, None, sym, refl, ap, ◌∙◌, subst, arith}
use Rattle.std.specs.Prelude.{not, if◌then◌else◌}
use Rattle.std.specs.Int.{w32, w64, to_le_bytes}
use Rattle.std.specs.List.{range_with_len}
use Rattle.std.specs.Str.{bytes_eq}
use Rattle.std.proofs.lemmas.Slice.Eq.{bytes_eq-Decides}
use Rattle.std.proofs.lemmas.List.{drop-drop, drop-take, take-take, length-drop, length-take-le, get_or-take, get_or-drop}
use Rattle.std.proofs.lemmas.List.FromFn.{fill_by_all}
use Rattle.std.proofs.lemmas.Bool.{eqb-false, ne_eqb, false≢true}
use Rattle.std.proofs.lemmas.Option.{none-some}
use Rattle.encoding.specs.Numbers.{Block, number_at}
use Rattle.encoding.specs.Laws.{four_read, eight_read, eight_written}
use Rattle.rights.specs.Covers.{free}
use Rattle.rights.specs.declared.row.Row.{Row}
use Rattle.layout.specs.declared.head.Head.{Head}
use Rattle.layout.specs.Codes.{codes_form, codes_of}
use Rattle.layout.specs.Rows.{rows_form, rows_of}
use Rattle.layout.specs.Head.{head_form, fields_of_head, head_of, HeadForm, IsNoHead}
use Rattle.layout.specs.Roll.{word_in, first_words, last_words}
use Rattle.layout.specs.ReadBack.{CodesFit, RowsFit, SpareZero, BlocksReadBack}

-- a list of known length, taken apart
pub apart : {X : Type 0} (xs : List X) (n : ℕ) (d : X) → length xs ≡ n → xs ≡ map (λ i. get_or xs i d) (range_with_len 0 n)
apart xs n d h = fill_by_all (λ i. get_or xs i d) xs n d h (λ k l. refl)

-- eight codes, each of them read back
eight_codes :
    (a b c d e f g h : ℕ) → a < 2 ^ 64 → b < 2 ^ 64 → c < 2 ^ 64 → d < 2 ^ 64 → e < 2 ^ 64 → f < 2 ^ 64 → g < 2 ^ 64 → h < 2 ^ 64
    → (let cs = a ∷ (b ∷ (c ∷ (d ∷ (e ∷ (f ∷ (g ∷ (h ∷ []))))))) in codes_of (codes_form cs) ≡ cs)
eight_codes a b c d e f g h ha hb hc hd he hf hg hh =
    let pa = eight_read a ha in
    let pb = eight_read b hb in
    let pc = eight_read c hc in
    let pd = eight_read d hd in
    let pe = eight_read e he in
    let pf = eight_read f hf in
    let pg = eight_read g hg in
    let ph = eight_read h hh in
    cc

pub codes_read : (cs : List ℕ) → length cs ≡ 8 → CodesFit cs → codes_of (codes_form cs) ≡ cs
codes_read cs l f =
    subst (λ (z : List ℕ). codes_of (codes_form z) ≡ z) (sym (apart cs 8 0 l))
    (eight_codes _ _ _ _ _ _ _ _ (f 0) (f 1) (f 2) (f 3) (f 4) (f 5) (f 6) (f 7))

-- eight parts of a list, and equal ones in their place
abbrev join : List ℕ → List ℕ → List ℕ → List ℕ → List ℕ → List ℕ → List ℕ → List ℕ → List ℕ
join a b c d e f g h = a ++ (b ++ (c ++ (d ++ (e ++ (f ++ (g ++ (h ++ [])))))))

same_parts :
    (a b c d e f g h a' b' c' d' e' f' g' h' : List ℕ) → a ≡ a' → b ≡ b' → c ≡ c' → d ≡ d' → e ≡ e' → f ≡ f' → g ≡ g' → h ≡ h'
    → join a b c d e f g h ≡ join a' b' c' d' e' f' g' h'
same_parts a b c d e f g h a' b' c' d' e' f' g' h' pa pb pc pd pe pf pg ph = cc

-- eight bytes of a block
abbrev part : List ℕ → ℕ → List ℕ
part c k = take 8 (drop k c)

-- a block is its eight parts
parted : (c : List ℕ) → length c ≡ 64 → join (part c 0) (part c 8) (part c 16) (part c 24) (part c 32) (part c 40) (part c 48) (part c 56) ≡ c
parted c l =
    subst (λ (z : List ℕ). join (part z 0) (part z 8) (part z 16) (part z 24) (part z 32) (part z 40) (part z 48) (part z 56) ≡ z)
    (sym (apart c 64 0 l)) refl

-- the bytes of the number in a part are that part
number_of_part : (c : List ℕ) (k : ℕ) → Block c → k + 8 ≤ 64 → to_le_bytes w64 (number_at w64 c k) ≡ part c k
number_of_part c k b h = eight_written c k b.bytes (omega (arith, b.sixty_four))

-- a block is the form of the codes that it holds
pub codes_written : (c : List ℕ) → Block c → codes_form (codes_of c) ≡ c
codes_written c b =
    let at : (k : ℕ) → k + 8 ≤ 64 → to_le_bytes w64 (number_at w64 c k) ≡ part c k = λ k. number_of_part c k b in
    same_parts _ _ _ _ _ _ _ _ _ _ _ _ _ _ _ _
    (at 0 (omega arith)) (at 8 (omega arith)) (at 16 (omega arith)) (at 24 (omega arith))
    (at 32 (omega arith)) (at 40 (omega arith)) (at 48 (omega arith)) (at 56 (omega arith))
    ∙ parted c b.sixty_four

-- a row with another name for its mask
row_as : (w : Row) (m : ℕ) → m ≡ w.mask → record { user = w.user; procedure = w.procedure; role = w.role; mask = m } ≡ w
row_as w m e = ap (λ (z : ℕ). record { user = w.user; procedure = w.procedure; role = w.role; mask = z }) e

same_rows : (a b c d a' b' c' d' : Row) → a ≡ a' → b ≡ b' → c ≡ c' → d ≡ d' → a ∷ (b ∷ (c ∷ (d ∷ []))) ≡ a' ∷ (b' ∷ (c' ∷ (d' ∷ [])))
same_rows a b c d a' b' c' d' pa pb pc pd = cc

four_rows :
    (a b c d : Row) → a.mask < 2 ^ 64 → b.mask < 2 ^ 64 → c.mask < 2 ^ 64 → d.mask < 2 ^ 64
    → (let ws = a ∷ (b ∷ (c ∷ (d ∷ []))) in rows_of (rows_form ws) ≡ ws)
four_rows a b c d ha hb hc hd =
    same_rows _ _ _ _ _ _ _ _
    (row_as a _ (eight_read a.mask ha)) (row_as b _ (eight_read b.mask hb)) (row_as c _ (eight_read c.mask hc)) (row_as d _ (eight_read d.mask hd))

pub rows_read : (ws : List Row) → length ws ≡ 4 → RowsFit ws → rows_of (rows_form ws) ≡ ws
rows_read ws l f =
    subst (λ (z : List Row). rows_of (rows_form z) ≡ z) (sym (apart ws 4 free l))
    (four_rows _ _ _ _ (f 0) (f 1) (f 2) (f 3))

-- a byte of a part
in_part : (c : List ℕ) (k j : ℕ) → j < 8 → get_or c (k + j) 0 ≡ get_or (part c k) j 0
in_part c k j h = sym (get_or-take 8 (drop k c) j 0 h ∙ get_or-drop k c j 0)

-- the first half of a row's bytes, whose spare ones are zero
half :
    (c : List ℕ) (k : ℕ) → Block c → k + 8 ≤ 64 → ((j : ℕ) → 3 ≤ j → j < 8 → get_or c (k + j) 0 ≡ 0)
    → get_or c k 0 ∷ (get_or c (k + 1) 0 ∷ (get_or c (k + 2) 0 ∷ (0 ∷ (0 ∷ (0 ∷ (0 ∷ (0 ∷ []))))))) ≡ part c k
half c k b h f =
    let e0 = ap (λ i. get_or c i 0) (let z : k ≡ k + 0 = omega arith in z) ∙ in_part c k 0 (omega arith) in
    let e1 = in_part c k 1 (omega arith) in
    let e2 = in_part c k 2 (omega arith) in
    let z3 = sym (f 3 (omega arith) (omega arith)) ∙ in_part c k 3 (omega arith) in
    let z4 = sym (f 4 (omega arith) (omega arith)) ∙ in_part c k 4 (omega arith) in
    let z5 = sym (f 5 (omega arith) (omega arith)) ∙ in_part c k 5 (omega arith) in
    let z6 = sym (f 6 (omega arith) (omega arith)) ∙ in_part c k 6 (omega arith) in
    let z7 = sym (f 7 (omega arith) (omega arith)) ∙ in_part c k 7 (omega arith) in
    let eight = apart (part c k) 8 0 (length-take-le 8 (drop k c) (omega (arith, length-drop k c, b.sixty_four))) in
    cc

-- a block of rows is the form of the rows that it holds
pub rows_written : (c : List ℕ) → Block c → SpareZero c → rows_form (rows_of c) ≡ c
rows_written c b s =
    let at : (k : ℕ) → k + 8 ≤ 64 → to_le_bytes w64 (number_at w64 c k) ≡ part c k = λ k. number_of_part c k b in
    same_parts _ _ _ _ _ _ _ _ _ _ _ _ _ _ _ _
    (half c 0 b (omega arith) (λ j. s 0 j (omega arith))) (at 8 (omega arith))
    (half c 16 b (omega arith) (λ j. s 1 j (omega arith))) (at 24 (omega arith))
    (half c 32 b (omega arith) (λ j. s 2 j (omega arith))) (at 40 (omega arith))
    (half c 48 b (omega arith) (λ j. s 3 j (omega arith))) (at 56 (omega arith))
    ∙ parted c b.sixty_four

same_head : (h : Head) (a b : ℕ) → a ≡ h.house → b ≡ h.count → record { house = a; kind = h.kind; count = b } ≡ h
same_head h a b p q =
    ap (λ (z : ℕ). record { house = z; kind = h.kind; count = b }) p ∙ ap (λ (z : ℕ). record { house = h.house; kind = h.kind; count = z }) q

-- a head's fields are read back from its form
pub fields_back : (h : Head) (c : List ℕ) → HeadForm h c → fields_of_head c ≡ h
fields_back h c f =
    subst (λ (z : List ℕ). fields_of_head z ≡ h) f.form
    (same_head h _ _ (four_read h.house f.house_fits) (four_read h.count f.count_fits))

-- the two tests of a head in their order
abbrev tested : Bool → Bool → Head → Option Head
tested no_house is_form f =
    if no_house then None
    else if not is_form then None
    else Some f

pub head_read : (h : Head) (c : List ℕ) → HeadForm h c → head_of c ≡ Some h
head_read h c f =
    let e = fields_back h c f in
    let no : eqb (fields_of_head c).house 0 ≡ false = ne_eqb _ 0 (λ z. f.some_house (ap (λ (y : Head). y.house) (sym e) ∙ z)) in
    let form : bytes_eq (head_form (fields_of_head c)) c ≡ true = (bytes_eq-Decides (head_form (fields_of_head c)) c).1 (ap head_form e ∙ f.form) in
    ap (λ z. tested z (bytes_eq (head_form (fields_of_head c)) c) (fields_of_head c)) no
    ∙ ap (λ z. tested false z (fields_of_head c)) form
    ∙ ap Some e

-- what the two tests leave
head_tested : (h f : Head) (s t : Bool) → tested s t f ≡ Some h → (s ≡ false) × (t ≡ true) × (f ≡ h)
head_tested h f true t e = absurd (none-some h e)
head_tested h f false false e = absurd (none-some h e)
head_tested h f false true e = (refl, refl, cc)

pub head_exact : (h : Head) (c : List ℕ) → head_of c ≡ Some h → HeadForm h c
head_exact h c e =
    let t = head_tested h (fields_of_head c) _ _ e in
    let form : head_form h ≡ c = ap head_form (sym t.2) ∙ (bytes_eq-Decides (head_form (fields_of_head c)) c).0 t.1 in
    let house : number_at w32 (head_form h) 0 ≡ h.house = ap (λ z. number_at w32 z 0) form ∙ ap (λ (z : Head). z.house) t.2 in
    let count : number_at w32 (head_form h) 8 ≡ h.count = ap (λ z. number_at w32 z 8) form ∙ ap (λ (z : Head). z.count) t.2 in
    record {
      some_house = λ z. eqb-false (fields_of_head c).house 0 t.0 (ap (λ (y : Head). y.house) t.2 ∙ z);
      house_fits = omega arith;
      count_fits = omega arith;
      form = form;
    }

-- a block that is not the form of its own fields says nothing
tested_none : (f : Head) (s t : Bool) → not t ≡ true → None ≡ tested s t f
tested_none f true t e = refl
tested_none f false true e = absurd (false≢true e)
tested_none f false false e = refl

pub other_form : (c : List ℕ) → not (bytes_eq (head_form (fields_of_head c)) c) ≡ true → None ≡ head_of c
other_form c e = tested_none (fields_of_head c) _ _ e

-- what the definition reads from a block is a head whose form it is, and where it reads nothing it
-- is no head's form
pub head_reads : (c : List ℕ) (o : Option Head) → o ≡ head_of c → MatchOption o (IsNoHead c) (λ h. HeadForm h c)
head_reads c None e = λ h f. none-some h (e ∙ head_read h c f)
head_reads c (Some h) e = head_exact h c (sym e)

-- a word of the first block, and of the last
pub first_read : (roll : List ℕ) (u : ℕ) → u < 8 → word_in (first_words roll) u ≡ word_in roll u
first_read roll u h =
    let split : 64 ≡ 8 * u + (64 - 8 * u) = omega arith in
    ap (λ z. take 8 (drop (8 * u) (take z roll))) split
    ∙ ap (take 8) (drop-take (8 * u) (64 - 8 * u) roll)
    ∙ take-take 8 (64 - 8 * u) (drop (8 * u) roll) (omega arith)

pub last_read : (roll : List ℕ) (u : ℕ) → 8 ≤ u → word_in (last_words roll) (u - 8) ≡ word_in roll u
last_read roll u h =
    let at : 64 + 8 * (u - 8) ≡ 8 * u = omega arith in
    ap (take 8) (drop-drop (8 * (u - 8)) 64 roll ∙ ap (λ z. drop z roll) at)

pub read_back : BlocksReadBack
read_back =
    record {
      codes_read = codes_read;
      codes_written = codes_written;
      rows_read = rows_read;
      rows_written = rows_written;
      head_read = head_read;
      head_exact = head_exact;
      first_read = first_read;
      last_read = last_read;
    }
