-- What the crates above prove with: how many blocks some bytes hold, and that blocks one after
-- another are the bytes that stand in blocks.
use Rattle.std.specs.Prelude.{◌≡◌, ℕ, zero, suc, ◌+◌, ◌*◌, ◌/◌, List, ◌∷◌, ◌++◌, map, length, take, drop, refl}
use Rattle.std.proofs.Common.{sym, ap, ◌∙◌, arith}
use Rattle.std.proofs.Math.Seq.{take-add}
use Rattle.std.proofs.lemmas.List.FromFn.{length-map-range_with_len}
use Rattle.std.proofs.lemmas.List.{length-take-le, drop-drop, drop-take, take-take}
use Rattle.std.specs.List.{concat, range_with_len}
use Rattle.trial.specs.Bytes.{blocks_of, in_blocks}

-- the bytes hold a block for every 64 of them
pub length_blocks : (bs : List ℕ) → length (blocks_of bs) ≡ length bs / 64
unfolding blocks_of
length_blocks bs =
    length-map-range_with_len (λ k. take 64 (drop (64 * k) bs)) 0 (length bs / 64)

-- block k of some bytes
abbrev pub block : List ℕ → ℕ → List ℕ
block bs k = take 64 (drop (64 * k) bs)

joined :
    (n i : ℕ) (bs : List ℕ)
    → concat (map (block bs) (range_with_len i n)) ≡ take (64 * n) (drop (64 * i) bs)
joined zero i bs = refl
joined (suc n) i bs =
    let next : drop (64 * (i + 1)) bs ≡ drop 64 (drop (64 * i) bs) =
    ap (λ z. drop z bs) {y = 64 * i + 64} (omega arith) ∙ sym (drop-drop 64 (64 * i) bs) in
    ap (λ z. block bs i ++ z) (joined n (i + 1) bs ∙ ap (take (64 * n)) next)
    ∙ sym (take-add 64 (64 * n) (drop (64 * i) bs))
    ∙ ap (λ z. take z (drop (64 * i) bs)) {x = 64 + 64 * n} (omega arith)

-- the blocks of some bytes, one after another
pub blocks_joined : (bs : List ℕ) → concat (blocks_of bs) ≡ in_blocks bs
unfolding blocks_of
blocks_joined bs = joined (length bs / 64) 0 bs

-- each block is the same where what stands behind the blocks is left out
same_block : (bs : List ℕ) (n k m : ℕ) → k + suc m ≡ n → block (take (64 * n) bs) k ≡ block bs k
same_block bs n k m e =
    ap (λ z. take 64 (drop (64 * k) (take z bs))) {y = 64 * k + (64 + 64 * m)} (omega (arith, e))
    ∙ ap (take 64) (drop-take (64 * k) (64 + 64 * m) bs)
    ∙ shorter (drop (64 * k) bs) where
      shorter : (xs : List ℕ) → take 64 (take (64 + 64 * m) xs) ≡ take 64 xs
      shorter xs = take-take 64 (64 + 64 * m) xs (omega arith)

same_blocks :
    (bs : List ℕ) (n i k : ℕ) → i + k ≡ n
    → map (block (take (64 * n) bs)) (range_with_len i k) ≡ map (block bs) (range_with_len i k)
same_blocks bs n i zero e = refl
same_blocks bs n i (suc k) e =
    ap (λ z. z ∷ map (block (take (64 * n) bs)) (range_with_len (i + 1) k))
    (same_block bs n i k e)
    ∙ ap (λ z. block bs i ∷ z) (same_blocks bs n (i + 1) k (omega (arith, e)))

pub blocks_alone : (bs : List ℕ) → blocks_of (in_blocks bs) ≡ blocks_of bs
unfolding blocks_of
blocks_alone bs =
    let q : ℕ = length bs / 64 in
    let long : length (in_blocks bs) / 64 ≡ q =
    ap (λ z. z / 64) (length-take-le (64 * q) bs (omega arith)) ∙ omega arith in
    ap (λ z. map (block (in_blocks bs)) (range_with_len 0 z)) long
    ∙ same_blocks bs q 0 q (omega arith)
