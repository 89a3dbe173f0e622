-- Where an item and a row stand.
use Rattle.std.proofs.Common.{◌≡◌, ℕ, ◌+◌, ◌-◌, ◌*◌, ◌/◌, ◌%◌, ◌<◌, ◌≤◌, List, [], length, get_or, refl, ap, ◌∙◌, arith}
use Rattle.std.proofs.lemmas.List.{get_or-drop}
use Rattle.std.proofs.lemmas.List.FromFn.{get_or-map-range_with_len, length-map-range_with_len}
use Rattle.lists.specs.Parts.{length-parts, get_or-parts}
use Rattle.journals.specs.Redo.{home_blocks}
use Rattle.rights.specs.Covers.{free}
use Rattle.layout.specs.Codes.{codes_of}
use Rattle.layout.specs.Rows.{rows_of}
use Rattle.image.specs.declared.part.Part.TheVariants.{Items, Rows}
use Rattle.image.specs.Home.{block_at, blocks_at, part_on, items_on, rows_on}
use Rattle.image.specs.Layout.{item_block, row_block}

-- a home block, by its number on the drive
pub at_home : (p : List (List ℕ)) (k : ℕ) → 7 ≤ k → block_at (home_blocks p) k ≡ get_or p k []
at_home p k h =
    let back : 7 + (k - 7) ≡ k = omega arith in
    get_or-drop 7 p (k - 7) [] ∙ ap (λ z. get_or p z []) back

-- block j of n from k on
pub block_of : (h : List (List ℕ)) (k n j : ℕ) → j < n → get_or (blocks_at h k n) j [] ≡ block_at h (k + j)
block_of h k n j l = get_or-map-range_with_len (block_at h) k n j (k + j) [] l refl

pub length-blocks : (h : List (List ℕ)) (k n : ℕ) → length (blocks_at h k n) ≡ n
length-blocks h k n = length-map-range_with_len (block_at h) k n

-- a block has eight codes, and four rows
pub eight_codes : (c : List ℕ) → length (codes_of c) ≡ 8
eight_codes c = refl

pub four_rows : (c : List ℕ) → length (rows_of c) ≡ 4
four_rows c = refl

-- eight blocks have 64 codes, and 32 rows
pub all_codes : (h : List (List ℕ)) → length (items_on h) ≡ 64
all_codes h = length-parts codes_of 8 eight_codes [] 0 (part_on h Items) ∙ ap (λ n. n * 8) (length-blocks h 8 8)

pub all_rows : (h : List (List ℕ)) → length (rows_on h) ≡ 32
all_rows h = length-parts rows_of 4 four_rows [] free (part_on h Rows) ∙ ap (λ n. n * 4) (length-blocks h 24 8)

-- where item i stands
pub items_at : (h : List (List ℕ)) (i : ℕ) → i < 64 → get_or (items_on h) i 0 ≡ get_or (codes_of (block_at h (item_block i))) (i % 8) 0
items_at h i l =
    let split : i ≡ i / 8 * 8 + i % 8 = omega arith in
    ap (λ z. get_or (items_on h) z 0) split
    ∙ get_or-parts codes_of 8 eight_codes [] 0 (part_on h Items) (i / 8) (i % 8) (omega (arith, length-blocks h 8 8)) (omega arith)
    ∙ ap (λ z. get_or (codes_of z) (i % 8) 0) (block_of h 8 8 (i / 8) (omega arith))

-- where row i stands
pub rows_at : (h : List (List ℕ)) (i : ℕ) → i < 32 → get_or (rows_on h) i free ≡ get_or (rows_of (block_at h (row_block i))) (i % 4) free
rows_at h i l =
    let split : i ≡ i / 4 * 4 + i % 4 = omega arith in
    ap (λ z. get_or (rows_on h) z free) split
    ∙ get_or-parts rows_of 4 four_rows [] free (part_on h Rows) (i / 4) (i % 4) (omega (arith, length-blocks h 24 8)) (omega arith)
    ∙ ap (λ (z : List ℕ). get_or (rows_of z) (i % 4) free) (block_of h 24 8 (i / 4) (omega arith))
