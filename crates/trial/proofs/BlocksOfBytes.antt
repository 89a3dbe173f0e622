-- The blocks in a run of bytes, and what a write of one of them makes of them.
use Rattle.std.proofs.Common.{◌≡◌, ℕ, ◌+◌, ◌-◌, ◌*◌, ◌/◌, ◌<◌, ◌≢◌, List, [], ◌++◌, length, get_or, take, drop, set, sym, ap, ◌∙◌, subst, inl, inr, arith}
use borrow.Rule.Slice.PartMut.{put_mid}
use Rattle.std.proofs.lemmas.List.FromFn.{get_or-map-range_with_len}
use Rattle.std.proofs.lemmas.Slice.{between_is, take-put_mid_below, drop-put_mid, between-put_mid}
use Rattle.std.proofs.lemmas.List.{length-set, length-take, length-drop, length-append, drop-drop, get_or-set_same, get_or-set_other, ext_get_or}
use Rattle.std.proofs.lemmas.Bool.{cases_eq, cases_lt}
use Rattle.trial.specs.Bytes.{blocks_of, with_block}
use Rattle.trial.specs.Laws.{length_blocks}

-- block k is the 64 bytes from 64 * k on
pub block_at : (bs : List ℕ) (k : ℕ) (d : List ℕ) → k < length bs / 64 → get_or (blocks_of bs) k d ≡ take 64 (drop (64 * k) bs)
unfolding blocks_of
block_at bs k d h = get_or-map-range_with_len (λ k. take 64 (drop (64 * k) bs)) 0 (length bs / 64) k k d h (omega arith)

-- the replaced block as the overwritten part of a slice
pub with_put : (bs : List ℕ) (b : ℕ) (x : List ℕ) → put_mid (64 * b) 64 bs x ≡ with_block bs b x
with_put bs b x = ap (λ y. take (64 * b) bs ++ (x ++ y)) (drop-drop 64 (64 * b) bs)

-- a write of block b, which is in the drive, of 64 bytes
module _ (bs : List ℕ) (b : ℕ) (x : List ℕ) (within : b < length bs / 64) (full : length x ≡ 64) where
  -- it leaves as many bytes as there were
  length_with : length (with_block bs b x) ≡ length bs
  length_with = simp (length-append, length-take, length-drop) (omega arith)

  -- the bytes after it
  abbrev after : List ℕ
  after = put_mid (64 * b) 64 bs x

  -- every other block is the one that it was
  other_block : (k : ℕ) → k ≢ b → take 64 (drop (64 * k) after) ≡ take 64 (drop (64 * k) bs)
  other_block k ne =
      elim (cases_lt k b) [
        | inl h ↦ (let end = 64 * k + 64 in
            let t = take-put_mid_below (64 * b) 64 bs x end (omega arith) (omega arith) in
            let u = between_is after (64 * k) end ∙ ap (λ y. drop (64 * k) y) t ∙ sym (between_is bs (64 * k) end) in
            let n : end - 64 * k ≡ 64 = omega arith in
            subst (λ n. take n (drop (64 * k) after) ≡ take n (drop (64 * k) bs)) n u)
        | inr h ↦ ap (λ y. take 64 y) (drop-put_mid (64 * b) 64 bs x (64 * k) (omega arith) (omega arith) full)
      ]

  -- block b is the new content
  own_block : take 64 (drop (64 * b) after) ≡ x
  own_block =
      let n : 64 * b + 64 - 64 * b ≡ 64 = omega arith in
      subst (λ n. take n (drop (64 * b) after) ≡ x) n (between-put_mid (64 * b) 64 bs x (64 * b + 64) (omega arith) (omega arith))

  -- so the blocks are those that were, with block b replaced
  pub blocks_with : blocks_of (with_block bs b x) ≡ set (blocks_of bs) b x
  blocks_with =
      let cs = with_block bs b x in
      ext_get_or [] (blocks_of cs) (set (blocks_of bs) b x)
      (length_blocks cs ∙ ap (λ n. n / 64) length_with ∙ sym (length_blocks bs) ∙ sym (length-set (blocks_of bs) b x))
      (λ k h. let m : k < length cs / 64 = omega (arith, length_blocks cs) in
      let n : k < length bs / 64 = subst (λ z. k < z / 64) length_with m in
      block_at cs k [] m ∙ ap (λ y. take 64 (drop (64 * k) y)) (sym (with_put bs b x)) ∙
      elim (cases_eq k b) [
        | inl z ↦ rw z (own_block ∙ sym (get_or-set_same (blocks_of bs) b x [] (omega (arith, length_blocks bs))))
        | inr ne ↦ other_block k ne ∙ sym (block_at bs k [] n) ∙ sym (get_or-set_other (blocks_of bs) b k x [] ne)
      ])
