-- A commit block by its bytes: what it holds at each place, and what is read back from it.
use Rattle.std.proofs.Common.{◌≡◌, ℕ, zero, suc, ◌+◌, ◌-◌, ◌*◌, ◌/◌, ◌%◌, ◌<◌, ◌≤◌, ◌⊎◌, List, [], ◌∷◌, ◌++◌, length, get_or, set, take, drop, replicate, sym, refl, ap, ◌∙◌, subst, inl, inr, arith}
use Rattle.std.specs.Int.{w16, to_le_bytes}
use Rattle.std.specs.List.{flat_map}
use Rattle.std.proofs.lemmas.List.FromFn.{fill_by_all, get_or-map-range_with_len, length-map-range_with_len}
use Rattle.std.proofs.lemmas.List.Concat.{flat_map-append}
use Rattle.std.proofs.lemmas.List.{get_or-append_right, get_or-replicate, get_or_past, get_or-take, get_or-drop, length-append, length-replicate, append_assoc, ext_get_or}
use Rattle.std.proofs.lemmas.Bool.{cases_eq, cases_lt}
use Rattle.encoding.specs.Numbers.{Block}
use Rattle.changes.specs.CommitBlock.{commit_block_of, count_of, number_of, named_in, Rises, LawfulCommit}
use Rattle.changes.specs.RoundTrip.{FitsCommit, ReadsBack}

-- two bytes for each number
abbrev pub pairs : List ℕ → List ℕ
pairs ns = flat_map (to_le_bytes w16) ns

length-pairs : (ns : List ℕ) → length (pairs ns) ≡ 2 * length ns
length-pairs [] = refl
length-pairs (x ∷ xs) = omega (arith, length-pairs xs)

-- what holds of the count's place, of the zero's, of the two bytes of each of n numbers, and behind
-- them holds of every place
by_place :
    (n : ℕ) (P : ℕ → Type 0) → P 0 → P 1 → ((i : ℕ) → i < n → P (2 + 2 * i))
    → ((i : ℕ) → i < n → P (3 + 2 * i))
    → ((j : ℕ) → 2 + 2 * n ≤ j → P j) → (j : ℕ) → P j
by_place n P count none low high past zero = count
by_place n P count none low high past (suc zero) = none
by_place n P count none low high past (suc (suc k)) =
    elim (cases_lt k (2 * n)) [
      | inr h ↦ past (suc (suc k)) (omega arith)
      | inl h ↦ elim (cases_eq (k % 2) 0) [
        | inl e ↦
            (let q : 2 + 2 * (k / 2) ≡ suc (suc k) = omega arith in
            subst P q (low (k / 2) (omega arith)))
        | inr ne ↦
            (let q : 3 + 2 * (k / 2) ≡ suc (suc k) = omega arith in
            subst P q (high (k / 2) (omega arith)))
      ]
    ]

-- the two bytes of the number at a place
pair_at : (ns zs : List ℕ) (i : ℕ) → i < length ns
    → (get_or (pairs ns ++ zs) (2 * i) 0 ≡ get_or ns i 0 % 256)
    × (get_or (pairs ns ++ zs) (suc (2 * i)) 0 ≡ get_or ns i 0 / 256 % 256)
pair_at [] zs i h = absurd (omega arith)
pair_at (x ∷ xs) zs zero h = (refl, refl)
pair_at (x ∷ xs) zs (suc i) h =
    let e : suc (suc (2 * i)) ≡ 2 * suc i = omega arith in
    let p = pair_at xs zs i (omega arith) in (
      subst (λ m. get_or (pairs (x ∷ xs) ++ zs) m 0 ≡ get_or xs i 0 % 256) e p.0,
      subst (λ m. get_or (pairs (x ∷ xs) ++ zs) (suc m) 0 ≡ get_or xs i 0 / 256 % 256) e p.1,
    )

-- the two bytes behind those of some numbers give way to two others
pair_set : (xs ys : List ℕ) (a b c d : ℕ)
    → set (set (pairs xs ++ a ∷ (b ∷ ys)) (2 * length xs) c) (suc (2 * length xs)) d
    ≡ pairs xs ++ c ∷ (d ∷ ys)
pair_set [] ys a b c d = refl
pair_set (x ∷ xs) ys a b c d =
    let e : 2 * suc (length xs) ≡ suc (suc (2 * length xs)) = omega arith in
    ap (λ m. set (set (pairs (x ∷ xs) ++ a ∷ (b ∷ ys)) m c) (suc m) d) e
    ∙ ap (λ l. x % 256 ∷ (x / 256 % 256 ∷ l)) (pair_set xs ys a b c d)

-- the commit block for n numbers so far as some of them are written
abbrev pub written_so_far : ℕ → List ℕ → List ℕ
written_so_far n ns = n ∷ (0 ∷ (pairs ns ++ replicate (62 - 2 * length ns) 0))

-- the two bytes of one number more
pub written_so_far-more :
    (n : ℕ) (ns : List ℕ) (k x : ℕ) → length ns ≡ k → k < 6
    → set (set (written_so_far n ns) (2 + 2 * k) (x % 256)) (3 + 2 * k) (x / 256 % 256)
    ≡ written_so_far n (ns ++ x ∷ [])
written_so_far-more n ns k x e h =
    let low : 2 + 2 * k ≡ suc (suc (2 * length ns)) = omega arith in
    let high : 3 + 2 * k ≡ suc (suc (suc (2 * length ns))) = omega arith in
    let room : 62 - 2 * length ns ≡ suc (suc (60 - 2 * length ns)) = omega arith in
    let left : 60 - 2 * length ns ≡ 62 - 2 * length (ns ++ x ∷ []) =
    omega (arith, length-append ns (x ∷ [])) in
    ap (λ m. set (set (written_so_far n ns) m (x % 256)) (3 + 2 * k) (x / 256 % 256)) low
    ∙ ap (λ m. set (set (written_so_far n ns) (suc (suc (2 * length ns))) (x % 256)) m
    (x / 256 % 256)) high
    ∙ ap (λ r. n ∷
    (0 ∷ set (set (pairs ns ++ replicate r 0) (2 * length ns) (x % 256)) (suc (2 * length ns))
    (x / 256 % 256))) room
    ∙ ap (λ l. n ∷ (0 ∷ l))
    (pair_set ns (replicate (60 - 2 * length ns) 0) 0 0 (x % 256) (x / 256 % 256))
    ∙ ap (λ r. n ∷ (0 ∷ (pairs ns ++ (x % 256 ∷ (x / 256 % 256 ∷ replicate r 0))))) left
    ∙ sym (ap (λ l. n ∷ (0 ∷ l))
    (ap (λ l. l ++ replicate (62 - 2 * length (ns ++ x ∷ [])) 0)
    (flat_map-append (to_le_bytes w16) ns (x ∷ []))
    ∙ append_assoc (pairs ns) (to_le_bytes w16 x)
    (replicate (62 - 2 * length (ns ++ x ∷ [])) 0)))

-- a number by its two bytes
number_bytes : (c : List ℕ) (i : ℕ)
    → number_of c i ≡ get_or c (2 + 2 * i) 0 + get_or c (3 + 2 * i) 0 * 256
number_bytes c i =
    let at : (j : ℕ) → j < 2
    → get_or (take 2 (drop (2 + 2 * i) c)) j 0 ≡ get_or c (2 + 2 * i + j) 0 =
    λ j h. get_or-take 2 (drop (2 + 2 * i) c) j 0 h ∙ get_or-drop (2 + 2 * i) c j 0 in
    let first : 2 + 2 * i + 0 ≡ 2 + 2 * i = omega arith in
    let second : 2 + 2 * i + 1 ≡ 3 + 2 * i = omega arith in
    omega (
      arith,
      at 0 (omega arith) ∙ ap (λ m. get_or c m 0) first,
      at 1 (omega arith)
          ∙ ap (λ m. get_or c m 0) second,
    )

-- which blocks a commit block names, one by one
pub named_at : (c : List ℕ) (i : ℕ) → i < count_of c → get_or (named_in c) i 0 ≡ number_of c i
named_at c i h = get_or-map-range_with_len (number_of c) 0 (count_of c) i i 0 h (omega arith)

pub length-named : (c : List ℕ) → length (named_in c) ≡ count_of c
length-named c = length-map-range_with_len (number_of c) 0 (count_of c)

module _ (ns : List ℕ) where
  low_byte : (i : ℕ) → i < length ns
      → get_or (commit_block_of ns) (2 + 2 * i) 0 ≡ get_or ns i 0 % 256
  low_byte i h =
      let e : suc (suc (2 * i)) ≡ 2 + 2 * i = omega arith in
      subst (λ m. get_or (commit_block_of ns) m 0 ≡ get_or ns i 0 % 256) e
      (pair_at ns (replicate (62 - 2 * length ns) 0) i h).0

  high_byte : (i : ℕ) → i < length ns
      → get_or (commit_block_of ns) (3 + 2 * i) 0 ≡ get_or ns i 0 / 256 % 256
  high_byte i h =
      let e : suc (suc (suc (2 * i))) ≡ 3 + 2 * i = omega arith in
      subst (λ m. get_or (commit_block_of ns) m 0 ≡ get_or ns i 0 / 256 % 256) e
      (pair_at ns (replicate (62 - 2 * length ns) 0) i h).1

  -- the zeros past the numbers
  zero_past : (j : ℕ) → 2 + 2 * length ns ≤ j → get_or (commit_block_of ns) j 0 ≡ 0
  zero_past zero h = absurd (omega arith)
  zero_past (suc zero) h = absurd (omega arith)
  zero_past (suc (suc k)) h =
      let zs : List ℕ = replicate (62 - 2 * length ns) 0 in
      get_or-append_right (pairs ns) zs (2 * length ns) k 0 (length-pairs ns) (omega arith)
      ∙ elim (cases_lt (k - 2 * length ns) (62 - 2 * length ns)) [
        | inl l ↦ get_or-replicate (62 - 2 * length ns) (k - 2 * length ns) 0 0 l
        | inr l ↦
            get_or_past zs (k - 2 * length ns) 0
            (omega (arith, length-replicate {A = ℕ} (62 - 2 * length ns) 0))
      ]

  -- every byte but the count's and those of the numbers is zero
  rest_zero : (j : ℕ) → (j ≡ 1) ⊎ (2 + 2 * length ns ≤ j) → get_or (commit_block_of ns) j 0 ≡ 0
  rest_zero j (inl e) = ap (λ m. get_or (commit_block_of ns) m 0) e
  rest_zero j (inr l) = zero_past j l

  module _ (fits : FitsCommit ns) where
    -- the numbers are read back
    named_back : named_in (commit_block_of ns) ≡ ns
    named_back =
        sym (fill_by_all (number_of (commit_block_of ns)) ns (length ns) 0 refl
        (λ i h. omega (
          arith,
          number_bytes (commit_block_of ns) i,
          low_byte i h,
          high_byte i h,
          fits.two_bytes i,
        )))

    pub reads_back : (size : ℕ) → Rises size ns → ReadsBack size ns
    reads_back size r =
        record {
          lawful = record {
            few = fits.few;
            rises = subst (Rises size) (sym named_back) r;
            rest = rest_zero;
          };
          named = named_back;
        }

-- a lawful block is what its own reading writes
module _ (size : ℕ) (c : List ℕ) (b : Block c) (l : LawfulCommit size c) where
  same_at : (j : ℕ) → get_or (commit_block_of (named_in c)) j 0 ≡ get_or c j 0
  same_at =
      by_place (count_of c) (λ j. get_or (commit_block_of (named_in c)) j 0 ≡ get_or c j 0)
      (length-named c)
      (sym (l.rest 1 (inl refl)))
      (λ i h. omega (
        arith,
        low_byte (named_in c) i (omega (arith, length-named c)),
        named_at c i h,
        number_bytes c i,
        b.bytes (2 + 2 * i),
      ))
      (λ i h. omega (
        arith,
        high_byte (named_in c) i (omega (arith, length-named c)),
        named_at c i h,
        number_bytes c i,
        b.bytes (2 + 2 * i),
        b.bytes (3 + 2 * i),
      ))
      (λ j h. zero_past (named_in c) j (omega (arith, length-named c)) ∙ sym (l.rest j (inr h)))

  long : length (commit_block_of (named_in c)) ≡ 64
  long =
      omega (
        arith,
        l.few,
        length-named c,
        length-pairs (named_in c),
        length-append (pairs (named_in c)) (replicate (62 - 2 * length (named_in c)) 0),
        length-replicate {A = ℕ} (62 - 2 * length (named_in c)) 0,
      )

  pub written_back : commit_block_of (named_in c) ≡ c
  written_back =
      ext_get_or 0 (commit_block_of (named_in c)) c (long ∙ sym b.sixty_four) (λ i h. same_at i)
