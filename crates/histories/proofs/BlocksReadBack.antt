-- The 64 codes and the 32 rows in eight blocks each: they are read back, and a block depends on its
-- own part alone.
use Rattle.std.proofs.Common.{take-add, ◌≡◌, ℕ, zero, suc, ◌+◌, ◌-◌, ◌*◌, ◌/◌, ◌^◌, ◌<◌, ◌≤◌, ◌⊎◌, List, [], ◌++◌, map, length, get_or, take, drop, set, sym, ap, ◌∙◌, subst, inl, inr, arith}
use Rattle.std.specs.List.{range_with_len, flat_map}
use Rattle.std.proofs.lemmas.List.{length-drop, length-take, get_or-drop, get_or-take, drop-set-lt, drop-set-add, take-set-le, drop-drop, take_all, get_or_past}
use Rattle.std.proofs.lemmas.List.FromFn.{get_or-map-range_with_len}
use Rattle.std.proofs.lemmas.Bool.{cases_lt}
use Rattle.rights.specs.Covers.{free}
use Rattle.rights.specs.declared.row.Row.{Row}
use Rattle.layout.specs.Codes.{codes_form, codes_of}
use Rattle.layout.specs.Rows.{rows_form, rows_of}
use Rattle.layout.specs.ReadBack.{CodesFit, RowsFit}
use Rattle.layout.specs.Laws.{codes_read, rows_read}
use Rattle.image.specs.Home.{blocks_of_codes, blocks_of_rows}

-- eight parts of n elements, each with a form of its own
module _ {X : Type 0} (form : List X → List ℕ) (n : ℕ) where
  abbrev part : List X → ℕ → List X
  part xs j = take n (drop (n * j) xs)

  abbrev forms : List X → List (List ℕ)
  forms xs = map (λ j. form (part xs j)) (range_with_len 0 8)

  form_at : (xs : List X) (j : ℕ) → j < 8 → get_or (forms xs) j [] ≡ form (part xs j)
  form_at xs j h = get_or-map-range_with_len (λ i. form (part xs i)) 0 8 j j [] h (omega arith)

  -- what the parts' forms are read as: c of them, from part k on
  back_from :
      (of : List ℕ → List X) (xs : List X) (c k : ℕ) → ((j : ℕ) → j < k + c → of (form (part xs j)) ≡ part xs j)
      → flat_map of (map (λ j. form (part xs j)) (range_with_len k c)) ≡ take (n * c) (drop (n * k) xs)
  back_from of xs zero k reads = (let none : 0 ≡ n * 0 = omega arith in ap (λ i. take i (drop (n * k) xs)) none)
  back_from of xs (suc c) k reads =
      let next : n * (k + 1) ≡ n * k + n = omega arith in
      let more : n * suc c ≡ n + n * c = omega arith in
      ap (λ z. z ++ flat_map of (map (λ j. form (part xs j)) (range_with_len (k + 1) c))) (reads k (omega arith))
      ∙ ap (λ z. part xs k ++ z) (back_from of xs c (k + 1) (λ j h. reads j (omega arith)) ∙ ap (λ i. take (n * c) (drop i xs)) next ∙ sym (ap (take (n * c)) (drop-drop n (n * k) xs)))
      ∙ sym (ap (λ i. take i (drop (n * k) xs)) more ∙ take-add n (n * c) (drop (n * k) xs))

  -- an element of another part
  part_same : (xs : List X) (i j : ℕ) (x : X) → (i < n * j) ⊎ (n * j + n ≤ i) → part (set xs i x) j ≡ part xs j
  part_same xs i j x (inl h) = ap (take n) (drop-set-lt (n * j) xs i x h)
  part_same xs i j x (inr h) =
      let split : i ≡ n * j + (i - n * j) = omega arith in
      ap (λ k. take n (drop (n * j) (set xs k x))) split
      ∙ ap (take n) (drop-set-add (n * j) xs (i - n * j) x)
      ∙ take-set-le n (drop (n * j) xs) (i - n * j) x (omega arith)

  form_same : (xs : List X) (i j : ℕ) (x : X) → j < 8 → (i < n * j) ⊎ (n * j + n ≤ i) → get_or (forms (set xs i x)) j [] ≡ get_or (forms xs) j []
  form_same xs i j x h o = form_at (set xs i x) j h ∙ ap form (part_same xs i j x o) ∙ sym (form_at xs j h)

-- a part that is all there has n elements, and what holds of all of the list holds of it
part_long : {X : Type 0} (n : ℕ) (xs : List X) (j : ℕ) → n * j + n ≤ length xs → length (take n (drop (n * j) xs)) ≡ n
part_long n xs j h = omega (arith, length-take n (drop (n * j) xs), length-drop (n * j) xs)

part_all : {X : Type 0} (P : X → Type 0) (n : ℕ) (xs : List X) (j i : ℕ) (d : X) → P (get_or xs (n * j + i) d) → P d → P (get_or (take n (drop (n * j) xs)) i d)
part_all P n xs j i d here past =
    elim (cases_lt i n) [
      | inl h ↦ subst P (sym (get_or-take n (drop (n * j) xs) i d h ∙ get_or-drop (n * j) xs i d)) here
      | inr h ↦ subst P (sym (get_or_past (take n (drop (n * j) xs)) i d (omega (arith, length-take n (drop (n * j) xs))))) past
    ]

-- 64 codes of 64 bits are read back from their blocks
pub codes_back : (codes : List ℕ) → length codes ≡ 64 → CodesFit codes → flat_map codes_of (blocks_of_codes codes) ≡ codes
codes_back codes l fit =
    back_from codes_form 8 codes_of codes 8 0
    (λ j h. codes_read (take 8 (drop (8 * j) codes)) (part_long 8 codes j (omega arith))
    (λ i. part_all (λ c. c < 2 ^ 64) 8 codes j i 0 (fit (8 * j + i)) (omega arith)))
    ∙ take_all 64 codes (omega arith)

pub rows_back : (rows : List Row) → length rows ≡ 32 → RowsFit rows → flat_map rows_of (blocks_of_rows rows) ≡ rows
rows_back rows l fit =
    back_from rows_form 4 rows_of rows 8 0
    (λ j h. rows_read (take 4 (drop (4 * j) rows)) (part_long 4 rows j (omega arith))
    (λ i. part_all (λ w. w.mask < 2 ^ 64) 4 rows j i free (fit (4 * j + i)) (omega arith)))
    ∙ take_all 32 rows (omega arith)

-- a block of codes, and of rows, where an element of another block was replaced
pub code_elsewhere : (codes : List ℕ) (i j x : ℕ) → j < 8 → (i / 8 ≡ j → ⊥) → get_or (blocks_of_codes (set codes i x)) j [] ≡ get_or (blocks_of_codes codes) j []
code_elsewhere codes i j x h ne =
    form_same codes_form 8 codes i j x h
    (elim (cases_lt i (8 * j)) [ inl a ↦ inl a | inr b ↦ inr (omega arith) ])

pub row_elsewhere : (rows : List Row) (i j : ℕ) (w : Row) → j < 8 → (i / 4 ≡ j → ⊥) → get_or (blocks_of_rows (set rows i w)) j [] ≡ get_or (blocks_of_rows rows) j []
row_elsewhere rows i j w h ne =
    form_same rows_form 4 rows i j w h
    (elim (cases_lt i (4 * j)) [ inl a ↦ inl a | inr b ↦ inr (omega arith) ])
