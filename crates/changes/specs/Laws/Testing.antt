-- The test of a commit block decides whether it is lawful.
use Rattle.std.proofs.Common.{◌≡◌, ℕ, zero, suc, ◌+◌, ◌-◌, ◌*◌, ◌<◌, ◌≤◌, true, false, ◌&&◌, eqb, ltb, leb, ◌⊎◌, List, [], ◌∷◌, length, get_or, drop, Decides, sym, refl, ap, ◌∙◌, inl, inr, arith}
use Rattle.std.specs.List.{list_all}
use Rattle.std.proofs.lemmas.List.{get_or-drop, drop_more}
use Rattle.std.proofs.lemmas.Bool.{leb-true, ltb-true, eqb-true, le-leb, lt-ltb, le-ltb, eq-eqb, and_parts, and_from, and_left, and_right}
use Rattle.changes.specs.CommitBlock.{count_of, named_in, rising, lawful_commit, Rises, LawfulCommit}

-- numbers that rise strictly, from above one on and below a size
record Above (size low : ℕ) (ns : List ℕ) : Type 0 where
  rise : (i j : ℕ) → i < j → j < length ns → get_or ns i 0 < get_or ns j 0
  above : (i : ℕ) → i < length ns → low < get_or ns i 0
  high : (i : ℕ) → i < length ns → get_or ns i 0 < size

module _ (size : ℕ) where
  -- one more number before others
  module _ (low n : ℕ) (ns : List ℕ) (first : low < n) (within : n < size)
      (r : Above size n ns) where
    rises : (i j : ℕ) → i < j → j < suc (length ns) → get_or (n ∷ ns) i 0 < get_or (n ∷ ns) j 0
    rises i zero u v = absurd (omega arith)
    rises zero (suc k) u v = r.above k (omega arith)
    rises (suc m) (suc k) u v = r.rise m k (omega arith) (omega arith)

    above : (i : ℕ) → i < suc (length ns) → low < get_or (n ∷ ns) i 0
    above zero u = first
    above (suc k) u = omega (arith, r.above k (omega arith))

    high : (i : ℕ) → i < suc (length ns) → get_or (n ∷ ns) i 0 < size
    high zero u = within
    high (suc k) u = r.high k (omega arith)

    more : Above size low (n ∷ ns)
    more = record { rise = rises; above = above; high = high }

  -- numbers that pass the test are such
  above_from : (low : ℕ) (ns : List ℕ) → rising size low ns ≡ true → Above size low ns
  above_from low [] e =
      record {
        rise = λ i j p q. absurd (omega arith);
        above = λ i p. absurd (omega arith);
        high = λ i p. absurd (omega arith);
      }
  above_from low (n ∷ ns) e =
      let p = and_parts (ltb low n && ltb n size) (rising size n ns) e in
      let q = and_parts (ltb low n) (ltb n size) p.0 in
      let first : low < n = ltb-true low n q.0 in
      let within : n < size = ltb-true n size q.1 in
      let r = above_from n ns p.1 in
      more low n ns first within (above_from n ns p.1)

  -- and such numbers pass it
  above_to : (low : ℕ) (ns : List ℕ) → Above size low ns → rising size low ns ≡ true
  above_to low [] r = refl
  above_to low (n ∷ ns) r =
      and_from _ _
      (and_from _ _ (lt-ltb low n (r.above 0 (omega arith)))
      (lt-ltb n size (r.high 0 (omega arith))))
      (above_to n ns (record {
        rise = λ i j u v. r.rise (suc i) (suc j) (omega arith) (omega arith);
        above = λ i u. r.rise 0 (suc i) (omega arith) (omega arith);
        high = λ i u. r.high (suc i) (omega arith);
      }))

  pub rising_decides : (ns : List ℕ) → Decides (rising size 6 ns) (Rises size ns)
  rising_decides ns = (
    λ e. (let r = above_from 6 ns e in
        record { rise = r.rise; low = λ i h. omega (arith, r.above i h); high = r.high }),
    λ r. above_to 6 ns
        (record { rise = r.rise; above = λ i h. omega (arith, r.low i h); high = r.high }),
  )

  -- the test of the numbers from a place on, where the first of them passes, and where it does not
  module _ (low i : ℕ) (ns : List ℕ) (h : i < length ns) where
    pub rising_on : low < get_or ns i 0 → get_or ns i 0 < size
        → rising size low (drop i ns) ≡ rising size (get_or ns i 0) (drop (i + 1) ns)
    rising_on l w =
        ap (rising size low) (drop_more ns i 0 h)
        ∙ ap (λ b. b && rising size (get_or ns i 0) (drop (i + 1) ns))
        (and_from _ _ (lt-ltb low (get_or ns i 0) l) (lt-ltb (get_or ns i 0) size w))

    pub rising_ends : (get_or ns i 0 ≤ low) ⊎ (size ≤ get_or ns i 0)
        → rising size low (drop i ns) ≡ false
    rising_ends e =
        ap (rising size low) (drop_more ns i 0 h)
        ∙ and_left (ltb low (get_or ns i 0) && ltb (get_or ns i 0) size)
        (rising size (get_or ns i 0) (drop (i + 1) ns)) (elim e [
          | inl l ↦
              and_left (ltb low (get_or ns i 0)) (ltb (get_or ns i 0) size)
              (le-ltb low (get_or ns i 0) l)
          | inr l ↦
              and_right (ltb low (get_or ns i 0)) (ltb (get_or ns i 0) size)
              (le-ltb (get_or ns i 0) size l)
        ])

-- all zero, as a test and place by place
zero_each : (xs : List ℕ) → list_all (λ b. eqb b 0) xs ≡ true → (k : ℕ) → get_or xs k 0 ≡ 0
zero_each [] e k = refl
zero_each (x ∷ xs) e zero = eqb-true x 0 (and_parts (eqb x 0) (list_all (λ b. eqb b 0) xs) e).0
zero_each (x ∷ xs) e (suc k) = zero_each xs (and_parts (eqb x 0) (list_all (λ b. eqb b 0) xs) e).1 k

each_zero : (xs : List ℕ) → ((k : ℕ) → get_or xs k 0 ≡ 0) → list_all (λ b. eqb b 0) xs ≡ true
each_zero [] h = refl
each_zero (x ∷ xs) h =
    and_from (eqb x 0) (list_all (λ b. eqb b 0) xs) (eq-eqb x 0 (h 0))
    (each_zero xs (λ k. h (suc k)))

module _ (size : ℕ) (c : List ℕ) where
  rest_zero : get_or c 1 0 ≡ 0 → list_all (λ b. eqb b 0) (drop (2 + 2 * count_of c) c) ≡ true
      → (j : ℕ) → (j ≡ 1) ⊎ (2 + 2 * count_of c ≤ j) → get_or c j 0 ≡ 0
  rest_zero one e j (inl p) = ap (λ z. get_or c z 0) p ∙ one
  rest_zero one e j (inr l) =
      let k : ℕ = j - (2 + 2 * count_of c) in
      let at : j ≡ 2 + 2 * count_of c + k = omega arith in
      ap (λ z. get_or c z 0) at ∙ sym (get_or-drop (2 + 2 * count_of c) c k 0)
      ∙ zero_each (drop (2 + 2 * count_of c) c) e k

  -- what passes is lawful
  lawful_from : lawful_commit size c ≡ true → LawfulCommit size c
  lawful_from e =
      let p = and_parts (leb (count_of c) 6 && eqb (get_or c 1 0) 0)
      (rising size 6 (named_in c) && list_all (λ b. eqb b 0) (drop (2 + 2 * count_of c) c)) e in
      let q = and_parts (leb (count_of c) 6) (eqb (get_or c 1 0) 0) p.0 in
      let r = and_parts (rising size 6 (named_in c))
      (list_all (λ b. eqb b 0) (drop (2 + 2 * count_of c) c)) p.1 in
      record {
        few = leb-true (count_of c) 6 q.0;
        rises = (rising_decides size (named_in c)).0 r.0;
        rest = rest_zero (eqb-true (get_or c 1 0) 0 q.1) r.1;
      }

  -- and what is lawful passes
  lawful_to : LawfulCommit size c → lawful_commit size c ≡ true
  lawful_to l =
      and_from _ _
      (and_from _ _ (le-leb (count_of c) 6 l.few) (eq-eqb (get_or c 1 0) 0 (l.rest 1 (inl refl))))
      (and_from _ _ ((rising_decides size (named_in c)).1 l.rises)
      (each_zero (drop (2 + 2 * count_of c) c)
      (λ k. get_or-drop (2 + 2 * count_of c) c k 0
      ∙ l.rest (2 + 2 * count_of c + k) (inr (omega arith)))))

  pub lawful_decides : Decides (lawful_commit size c) (LawfulCommit size c)
  lawful_decides = (lawful_from, lawful_to)
