-- Blocks with homes written over them, and what finishing leaves.
use Rattle.std.proofs.Common.{◌≡◌, ℕ, zero, suc, ◌+◌, ◌-◌, ◌<◌, ◌≤◌, ◌⊎◌, List, [], ◌∷◌, ◌++◌, Contains, map, length, get_or, drop, set, sym, refl, ap, ◌∙◌, subst, inl, inr, arith}
use Rattle.std.specs.List.{range_with_len}
use Rattle.std.proofs.lemmas.List.{length-set, length-drop, length-map, get_or-drop, get_or-map, get_or-set_same, get_or-set_other, get_or_default, ext_get_or}
use Rattle.std.proofs.lemmas.List.Sums.{fold-append}
use Rattle.std.proofs.lemmas.List.FromFn.{fill_by_all, length-map-range_with_len, get_or-map-range_with_len}
use Rattle.std.proofs.lemmas.Simd.{map-map}
use Rattle.std.proofs.lemmas.Bool.{cases_eq}
use Rattle.changes.specs.declared.home.Home.{Home}
use Rattle.changes.specs.CommitBlock.{count_of, number_of, named_in, LawfulCommit}
use Rattle.changes.specs.Homes.{home_at, numbers, contents}
use Rattle.journals.specs.Redo.{with_home, overlay, blocks_from, slot, commit_block, named_home, named_homes, finished, home_blocks}

-- block k is one of the homes
abbrev pub Names : List Home → ℕ → Type 0
Names homes k = Contains (numbers homes) k

names_more : (h : Home) (hs : List Home) (k : ℕ) → Names hs k → Names (h ∷ hs) k
names_more h hs k w = (suc w.0, omega (arith, w.1), w.2)

pub names_at : (homes : List Home) (k : ℕ) → Names homes k
    → (i : ℕ) × (i < length homes) × (get_or (numbers homes) i 0 ≡ k)
names_at homes k w = (
  w.0,
  omega (arith, w.1, length-map homes (λ h. h.number)),
  get_or_default (numbers homes) w.0 0 k w.1 ∙ w.2,
)

pub names_home : (homes : List Home) (k : ℕ) (x : List ℕ) → Contains homes (home_at k x)
    → Names homes k
names_home homes k x w = (
  w.0,
  omega (arith, w.1, length-map homes (λ h. h.number)),
  get_or-map (λ h. h.number) homes w.0 (home_at k x) k w.1 ∙ ap (λ h. h.number) w.2,
)

-- numbers that rise
abbrev pub Rise : List Home → Type 0
Rise homes =
    (i j : ℕ) → i < j → j < length homes → get_or (numbers homes) i 0 < get_or (numbers homes) j 0

pub overlay_length : (homes : List Home) (p : List (List ℕ)) → length (overlay homes p) ≡ length p
overlay_length [] p = refl
overlay_length (h ∷ hs) p =
    overlay_length hs (set p h.number h.content) ∙ length-set p h.number h.content

-- one home more
pub overlay_push : (homes : List Home) (h : Home) (p : List (List ℕ))
    → overlay (homes ++ h ∷ []) p ≡ set (overlay homes p) h.number h.content
overlay_push homes h p = fold-append with_home p homes (h ∷ [])

pub overlay_either : (homes : List Home) (p : List (List ℕ)) (k : ℕ)
    → (get_or (overlay homes p) k [] ≡ get_or p k []) ⊎ Names homes k
overlay_either [] p k = inl refl
overlay_either (h ∷ hs) p k =
    elim (cases_eq k h.number) [
      | inl e ↦ inr (0, omega arith, sym e)
      | inr ne ↦ elim (overlay_either hs (set p h.number h.content) k) [
        | inl q ↦ inl (q ∙ get_or-set_other p h.number k h.content [] ne)
        | inr w ↦ inr (names_more h hs k w)
      ]
    ]

-- a block that is none of the homes holds what it held
pub overlay_elsewhere : (homes : List Home) (p : List (List ℕ)) (k : ℕ) → (Names homes k → ⊥)
    → get_or (overlay homes p) k [] ≡ get_or p k []
overlay_elsewhere homes p k f = elim (overlay_either homes p k) [ inl q ↦ q | inr w ↦ absurd (f w) ]

-- the block of a home holds its content
pub overlay_at :
    (homes : List Home) (p : List (List ℕ)) → Rise homes → (i : ℕ) → i < length homes
    → get_or (numbers homes) i 0 < length p
    → get_or (overlay homes p) (get_or (numbers homes) i 0) [] ≡ get_or (contents homes) i []
overlay_at [] p r i h l = absurd (omega arith)
overlay_at (x ∷ hs) p r zero h l =
    overlay_elsewhere hs (set p x.number x.content) x.number
    (λ w. (let m = names_at hs x.number w in
    omega (arith, r 0 (suc m.0) (omega arith) (omega (arith, m.1)), m.2)))
    ∙ get_or-set_same p x.number x.content [] l
overlay_at (x ∷ hs) p r (suc i) h l =
    overlay_at hs (set p x.number x.content)
    (λ a b u v. r (suc a) (suc b) (omega arith) (omega arith)) i (omega arith)
    (omega (arith, length-set p x.number x.content))

agree_before :
    (h : Home) (hs : List Home) (p q : List (List ℕ)) (k : ℕ) → (k ≡ h.number → ⊥)
    → (get_or p k [] ≡ get_or q k []) ⊎ Names (h ∷ hs) k
    → (get_or (set p h.number h.content) k [] ≡ get_or (set q h.number h.content) k []) ⊎ Names hs k
agree_before h hs p q k ne (inl e) =
    inl (get_or-set_other p h.number k h.content [] ne ∙ e
    ∙ sym (get_or-set_other q h.number k h.content [] ne))
agree_before h hs p q k ne (inr (zero, l, e)) = absurd (ne (sym e))
agree_before h hs p q k ne (inr (suc i, l, e)) = inr (i, omega arith, e)

-- where two lists of blocks agree, or a home is written, they agree afterwards
pub overlay_agree :
    (homes : List Home) (p q : List (List ℕ)) (k : ℕ) → length p ≡ length q → k < length p
    → (get_or p k [] ≡ get_or q k []) ⊎ Names homes k
    → get_or (overlay homes p) k [] ≡ get_or (overlay homes q) k []
overlay_agree [] p q k s l (inl e) = e
overlay_agree [] p q k s l (inr w) = absurd (omega (arith, w.1))
overlay_agree (h ∷ hs) p q k s l c =
    let t : length (set p h.number h.content) ≡ length (set q h.number h.content) =
    length-set p h.number h.content ∙ s ∙ sym (length-set q h.number h.content) in
    overlay_agree hs (set p h.number h.content) (set q h.number h.content) k t
    (omega (arith, length-set p h.number h.content))
    (elim (cases_eq k h.number) [
      | inl e ↦
          inl (ap (λ m. get_or (set p h.number h.content) m []) e
          ∙ get_or-set_same p h.number h.content [] (omega arith)
          ∙ sym (get_or-set_same q h.number h.content [] (omega arith))
          ∙ sym (ap (λ m. get_or (set q h.number h.content) m []) e))
      | inr ne ↦ agree_before h hs p q k ne c
    ])

-- contents for one block after another
pub length-blocks_from : (k : ℕ) (xs : List (List ℕ)) → length (blocks_from k xs) ≡ length xs
length-blocks_from k [] = refl
length-blocks_from k (x ∷ xs) = ap suc (length-blocks_from (suc k) xs)

pub blocks_from-at : (k : ℕ) (xs : List (List ℕ)) (i : ℕ) (z : Home) → i < length xs
    → get_or (blocks_from k xs) i z ≡ home_at (k + i) (get_or xs i [])
blocks_from-at k [] i z h = absurd (omega arith)
blocks_from-at k (x ∷ xs) zero z h = (let e : k ≡ k + 0 = omega arith in ap (λ m. home_at m x) e)
blocks_from-at k (x ∷ xs) (suc i) z h =
    let e : suc k + i ≡ k + suc i = omega arith in
    blocks_from-at (suc k) xs i z (omega arith) ∙ ap (λ m. home_at m (get_or xs i [])) e

pub blocks_from-elsewhere : (k : ℕ) (xs : List (List ℕ)) (p : List (List ℕ)) (j : ℕ)
    → (j < k) ⊎ (k + length xs ≤ j) → get_or (overlay (blocks_from k xs) p) j [] ≡ get_or p j []
blocks_from-elsewhere k [] p j o = refl
blocks_from-elsewhere k (x ∷ xs) p j o =
    blocks_from-elsewhere (suc k) xs (set p k x) j
    (elim o [ inl a ↦ inl (omega arith) | inr b ↦ inr (omega arith) ])
    ∙ get_or-set_other p k j x [] (λ e. elim o [ inl a ↦ omega arith | inr b ↦ omega arith ])

pub blocks_from-inside : (k : ℕ) (xs : List (List ℕ)) (p : List (List ℕ)) (i : ℕ) → i < length xs
    → k + i < length p → get_or (overlay (blocks_from k xs) p) (k + i) [] ≡ get_or xs i []
blocks_from-inside k [] p i h l = absurd (omega arith)
blocks_from-inside k (x ∷ xs) p zero h l =
    let e : k + 0 ≡ k = omega arith in
    ap (λ m. get_or (overlay (blocks_from (suc k) xs) (set p k x)) m []) e
    ∙ blocks_from-elsewhere (suc k) xs (set p k x) k (inl (omega arith))
    ∙ get_or-set_same p k x [] (omega arith)
blocks_from-inside k (x ∷ xs) p (suc i) h l =
    let e : k + suc i ≡ suc k + i = omega arith in
    ap (λ m. get_or (overlay (blocks_from (suc k) xs) (set p k x)) m []) e
    ∙ blocks_from-inside (suc k) xs (set p k x) i (omega arith) (omega (arith, length-set p k x))

pub names_blocks_from : (k : ℕ) (xs : List (List ℕ)) (j : ℕ) → Names (blocks_from k xs) j
    → (k ≤ j) × (j < k + length xs)
names_blocks_from k xs j w =
    let m = names_at (blocks_from k xs) j w in
    let i : m.0 < length xs = omega (arith, m.1, length-blocks_from k xs) in
    let z : Home = home_at 0 [] in
    let n : get_or (numbers (blocks_from k xs)) m.0 0 ≡ k + m.0 =
    get_or-map (λ h. h.number) (blocks_from k xs) m.0 z 0 m.1
    ∙ ap (λ h. h.number) (blocks_from-at k xs m.0 z i) in
    (omega (arith, m.2), omega (arith, m.2))

-- the home blocks alone
pub home_same : (p q : List (List ℕ)) → length p ≡ length q
    → ((k : ℕ) → 7 ≤ k → k < length p → get_or p k [] ≡ get_or q k [])
    → home_blocks p ≡ home_blocks q
home_same p q s f =
    ext_get_or [] (drop 7 p) (drop 7 q) (omega (arith, length-drop 7 p, length-drop 7 q))
    (λ i h. get_or-drop 7 p i [] ∙ f (7 + i) (omega arith) (omega (arith, length-drop 7 p))
    ∙ sym (get_or-drop 7 q i []))

pub length-home : (p : List (List ℕ)) → length (home_blocks p) ≡ length p - 7
length-home p = length-drop 7 p

pub home_block : (p : List (List ℕ)) (k : ℕ) → 7 ≤ k
    → get_or (home_blocks p) (k - 7) [] ≡ get_or p k []
home_block p k h =
    (let e : 7 + (k - 7) ≡ k = omega arith in
    get_or-drop 7 p (k - 7) [] ∙ ap (λ m. get_or p m []) e)

pub home_overlay : (homes : List Home) (p q : List (List ℕ)) → length p ≡ length q
    → home_blocks p ≡ home_blocks q → home_blocks (overlay homes p) ≡ home_blocks (overlay homes q)
home_overlay homes p q s e =
    home_same (overlay homes p) (overlay homes q)
    (overlay_length homes p ∙ s ∙ sym (overlay_length homes q))
    (λ k u v. overlay_agree homes p q k s (omega (arith, overlay_length homes p))
    (inl (sym (home_block p k u) ∙ ap (λ x. get_or x (k - 7) []) e ∙ home_block q k u)))

-- what a commit block names
pub length-named : (p : List (List ℕ)) → length (named_homes p) ≡ count_of (commit_block p)
length-named p = length-map-range_with_len (named_home p) 0 (count_of (commit_block p))

pub numbers_named : (p : List (List ℕ)) → numbers (named_homes p) ≡ named_in (commit_block p)
numbers_named p =
    map-map (λ h. h.number) (named_home p) (range_with_len 0 (count_of (commit_block p)))

-- it names these homes, if their numbers are those that stand in it, and their contents those that
-- the slots hold
pub named_are :
    (p : List (List ℕ)) (homes : List Home) → named_in (commit_block p) ≡ numbers homes
    → ((i : ℕ) → i < length homes → get_or p (slot i) [] ≡ get_or (contents homes) i [])
    → named_homes p ≡ homes
named_are p homes e f =
    let c = commit_block p in
    let z : Home = home_at 0 [] in
    let count : length homes ≡ count_of c =
    sym (ap length e ∙ length-map homes (λ h. h.number))
    ∙ length-map-range_with_len (number_of c) 0 (count_of c) in
    let each : (i : ℕ) → i < count_of c → get_or homes i z ≡ named_home p i = λ i h.
    (let here : i < length homes = omega arith in
    let number : (get_or homes i z).number ≡ number_of c i =
    sym (get_or-map (λ h. h.number) homes i z 0 here) ∙ sym (ap (λ ns. get_or ns i 0) e)
    ∙ get_or-map-range_with_len (number_of c) 0 (count_of c) i i 0 h (omega arith) in
    let content : (get_or homes i z).content ≡ get_or p (slot i) [] =
    sym (get_or-map (λ h. h.content) homes i z [] here) ∙ sym (f i here) in
    λ j. home_at (number j) (content j)) in
    sym (fill_by_all (named_home p) homes (count_of c) z count each)

-- lists of blocks with the same commit block and the same slots name the same
pub named_same :
    (p q : List (List ℕ)) → count_of (commit_block q) ≤ 6 → commit_block p ≡ commit_block q
    → ((i : ℕ) → i < 6 → get_or p (slot i) [] ≡ get_or q (slot i) [])
    → named_homes p ≡ named_homes q
named_same p q few e f =
    named_are p (named_homes q) (ap named_in e ∙ sym (numbers_named q))
    (λ i h. (let at : i < count_of (commit_block q) = omega (arith, length-named q) in
    f i (omega arith)
    ∙ sym (get_or-map (λ h. h.content) (named_homes q) i (home_at 0 []) [] h
    ∙ ap (λ h. h.content)
    (get_or-map-range_with_len (named_home q) 0 (count_of (commit_block q)) i i
    (home_at 0 []) at (omega arith)))))

-- what it names on a drive where it is lawful are home blocks
pub names_high : (p : List (List ℕ)) (n : ℕ) → LawfulCommit n (commit_block p) → (k : ℕ)
    → Names (named_homes p) k → (7 ≤ k) × (k < n)
names_high p n l k w =
    let ns = named_in (commit_block p) in
    let v : Contains ns k = subst (λ m. Contains m k) (numbers_named p) w in
    let at : get_or ns v.0 0 ≡ k = get_or_default ns v.0 0 k v.1 ∙ v.2 in
    (omega (arith, l.rises.low v.0 v.1), omega (arith, l.rises.high v.0 v.1))

pub finished_length : (p : List (List ℕ)) → length (finished p) ≡ length p
finished_length p = overlay_length (named_homes p) p

pub finished_nothing : (p : List (List ℕ)) → count_of (commit_block p) ≡ 0 → finished p ≡ p
finished_nothing p e = ap (λ n. overlay (map (named_home p) (range_with_len 0 n)) p) e

-- the commit block and the slots are not written
pub finished_low : (p : List (List ℕ)) → LawfulCommit (length p) (commit_block p) → (k : ℕ) → k < 7
    → get_or (finished p) k [] ≡ get_or p k []
finished_low p l k h =
    overlay_elsewhere (named_homes p) p k (λ w. omega (arith, (names_high p (length p) l k w).0))
