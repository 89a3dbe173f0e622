-- What is known of every change: one block more behind it, and the commit block that names its
-- blocks.
use Rattle.std.proofs.Common.{◌≡◌, ℕ, ◌+◌, ◌-◌, ◌*◌, ◌<◌, ◌≤◌, List, [], ◌∷◌, ◌++◌, length, get_or, set, take, sym, ap, ◌∙◌, inl, inr, arith}
use Rattle.std.specs.Int.{w16, to_le_bytes}
use Rattle.std.proofs.lemmas.List.{length-map, length-take-le, take_all, map_push, map_more, get_or_append_left, get_or_push, get_or_past, length_push}
use Rattle.std.proofs.lemmas.Bool.{cases_eq, cases_lt}
use Rattle.changes.specs.declared.home.Home.{Home}
use Rattle.changes.specs.Homes.{numbers, last, IsChange}
use Rattle.changes.specs.CommitBlock.{commit_block_of, Rises}
use Rattle.changes.specs.RoundTrip.{ReadsBack}
use Rattle.changes.specs.Laws.Encoding.{written_so_far, written_so_far-more, reads_back}

module _ (hs : List Home) where
  long : length (numbers hs) ≡ length hs
  long = length-map hs (λ h. h.number)

  -- a home behind the others, whose number is above theirs
  module _ (c : IsChange hs) (h : Home) (room : length hs < 6) (above : last hs < h.number)
      (fits : h.number < 65536) where
    there : (i : ℕ) → i < length hs → get_or (numbers (hs ++ h ∷ [])) i 0 ≡ get_or (numbers hs) i 0
    there i l =
        ap (λ m. get_or m i 0) (map_push (λ z. z.number) hs h)
        ∙ get_or_append_left (numbers hs) (h.number ∷ []) 0 i (omega (arith, long))

    here : (i : ℕ) → i ≡ length hs → get_or (numbers (hs ++ h ∷ [])) i 0 ≡ h.number
    here i e =
        ap (λ m. get_or m i 0) (map_push (λ z. z.number) hs h)
        ∙ get_or_push (numbers hs) h.number 0 i (long ∙ sym e)

    beyond : (i : ℕ) → length hs < i → get_or (numbers (hs ++ h ∷ [])) i 0 ≡ 0
    beyond i l =
        get_or_past (numbers (hs ++ h ∷ [])) i 0
        (omega (arith, length-map (hs ++ h ∷ []) (λ z. z.number), length_push hs h))

    below : (i : ℕ) → i < length hs → get_or (numbers hs) i 0 < h.number
    below i l =
        elim (cases_eq i (length hs - 1)) [
          | inl e ↦ omega (arith, ap (λ m. get_or (numbers hs) m 0) e)
          | inr ne ↦ omega (arith, c.rise i (length hs - 1) (omega arith) (omega arith))
        ]

    pub IsChange-push : IsChange (hs ++ h ∷ [])
    IsChange-push =
        let len : length (hs ++ h ∷ []) ≡ length hs + 1 = length_push hs h in
        record {
          some = omega arith;
          few = omega arith;
          rise = λ i j l k. elim (cases_eq j (length hs)) [
            | inl e ↦ omega (arith, there i (omega arith), here j e, below i (omega arith))
            | inr ne ↦
                omega (
                  arith,
                  there i (omega arith),
                  there j (omega arith),
                  c.rise i j l (omega arith),
                )
          ];
          low = λ i l. elim (cases_eq i (length hs)) [
            | inl e ↦ omega (arith, here i e, c.low (length hs - 1) (omega (arith, c.some)))
            | inr ne ↦ omega (arith, there i (omega arith), c.low i (omega arith))
          ];
          two_bytes = λ i. elim (cases_lt i (length hs)) [
            | inl l ↦ omega (arith, there i l, c.two_bytes i)
            | inr l ↦
                elim (cases_eq i (length hs)) [
                  | inl e ↦ omega (arith, here i e)
                  | inr ne ↦ omega (arith, beyond i (omega arith))
                ]
          ];
        }

  -- its commit block: the two bytes of the home at a place, behind those of the homes before it
  pub written_so_far-next :
      (n k : ℕ) (items : List Home) (block bytes : List ℕ) (h : Home) → items ≡ hs
      → block ≡ written_so_far n (numbers (take k hs))
      → bytes ≡ to_le_bytes w16 (get_or items k h).number → k < length hs → length hs ≤ 6
      → set (set block (2 + 2 * k) (get_or bytes 0 0)) (3 + 2 * k) (get_or bytes 1 0)
      ≡ written_so_far n (numbers (take (k + 1) hs))
  written_so_far-next n k items block bytes h same e b l few =
      let two : bytes ≡ to_le_bytes w16 (get_or hs k h).number =
      b ∙ ap (λ z. to_le_bytes w16 (get_or z k h).number) same in
      let so_far : length (numbers (take k hs)) ≡ k =
      length-map (take k hs) (λ z. z.number) ∙ length-take-le k hs (omega arith) in
      ap (λ z. set (set z (2 + 2 * k) (get_or bytes 0 0)) (3 + 2 * k) (get_or bytes 1 0)) e
      ∙ ap (λ z. set (set (written_so_far n (numbers (take k hs))) (2 + 2 * k) (get_or z 0 0))
      (3 + 2 * k) (get_or z 1 0)) two
      ∙ written_so_far-more n (numbers (take k hs)) k (get_or hs k h).number so_far (omega arith)
      ∙ sym (ap (written_so_far n) (map_more (λ z. z.number) hs k h l))

  -- and that of them all
  pub written_so_far-all : (k : ℕ) (block : List ℕ) → length hs ≤ k
      → block ≡ written_so_far (length hs) (numbers (take k hs))
      → block ≡ commit_block_of (numbers hs)
  written_so_far-all k block l e =
      e ∙ ap (λ z. written_so_far (length hs) (numbers z)) (take_all k hs l)
      ∙ ap (λ n. written_so_far n (numbers hs)) (sym long)

  module _ (c : IsChange hs) (size : ℕ) (within : last hs < size) where
    -- its numbers rise below any size that is above the last of them
    pub change_rises : Rises size (numbers hs)
    change_rises =
        record {
          rise = λ i j l k. c.rise i j l (omega (arith, long));
          low = λ i l. c.low i (omega (arith, long));
          high = λ i l. elim (cases_eq i (length hs - 1)) [
            | inl e ↦ omega (arith, ap (λ m. get_or (numbers hs) m 0) e)
            | inr ne ↦
                omega (
                  arith,
                  c.rise i (length hs - 1) (omega (arith, c.some, long)) (omega (arith, c.some)),
                )
          ];
        }

    -- its commit block is lawful there, and names its blocks
    pub change_reads_back : ReadsBack size (numbers hs)
    change_reads_back =
        reads_back (numbers hs)
        (record { few = omega (arith, c.few, long); two_bytes = c.two_bytes }) size change_rises

    -- a drive that has its blocks has a commit block and slots
    pub change_wide : 7 ≤ size
    change_wide = omega (arith, c.low (length hs - 1) (omega (arith, c.some)))
