-- A valid list of the stock book has 64 codes, and its step keeps it valid: item 0 moves as its
-- shelf does.
use Rattle.std.specs.Prelude.{◌≡◌, ℕ, zero, suc, ◌+◌, ◌^◌, ◌<◌, true, ◌&&◌, List, [], ◌∷◌, length, sum_by, ◌==◌, ◌≢◌, nat_le, slice_index, slice_set, Ok, refl}
use Rattle.std.proofs.Common.{sym, ap, ◌∙◌, arith}
use Rattle.std.proofs.lemmas.List.{length-set}
use Rattle.std.proofs.lemmas.List.Sums.{sum_by-set}
use Rattle.std.proofs.lemmas.Bool.{and_parts, and_from, eq-eqb, eqb-true, leb-true, ltb-true, true≢false}
use Rattle.std.specs.List.{list_all}
use Rattle.lists.specs.Answers.{passed, same_ok}
use Rattle.lists.specs.Elements.{all_set}
use Rattle.books.specs.declared.draft.Draft.{Draft}
use Rattle.books.specs.Meaning.{ValidHas64Codes, StepKeepsValid, amount_ok, codes_at}
use Rattle.stock.specs.Procedures.{is_procedure}
use Rattle.stock.specs.Stock.{stock, stock_valid, stock_takes, stock_step, held, most, reels_code, shelf_ok, in_order, held_after, most_after, halves_stay, code_stays, shelf_stays, reels_stay, code_after}

-- the halves of a code are those that it was made of
held_back : (h m : ℕ) → h < 2 ^ 32 → held (reels_code h m) ≡ h
held_back h m l = omega arith

most_back : (h m : ℕ) → h < 2 ^ 32 → most (reels_code h m) ≡ m
most_back h m l = omega arith

-- where a shelf's held moves, the sum moves alike
held_moves : (p h m H n s t : ℕ) → halves_stay p h m n ≡ true → H ≡ s → t + h ≡ s + held_after p h n → held_after p H n ≡ t
held_moves p h m H n s t k e f = grind arith

most_moves : (p m M n s t : ℕ) → M ≡ s → t + m ≡ s + most_after p m n → most_after p M n ≡ t
most_moves p m M n s t e f = grind arith

-- what a draft leaves in the halves of a code
module _ (d : Draft) (c x : ℕ) (stay : code_stays d c ≡ true) (is : x ≡ code_after d c) where
  abbrev left : ℕ
  left = held_after d.procedure (held c) d.amount

  abbrev right : ℕ
  right = most_after d.procedure (most c) d.amount

  fits : left < 2 ^ 32
  fits = ltb-true left (2 ^ 32) (and_parts _ _ (and_parts _ _ stay).1).0

  held_left : held x ≡ left
  held_left = ap held is ∙ held_back left right fits

  most_left : most x ≡ right
  most_left = ap most is ∙ most_back left right fits

-- shelf a of the list after item 0, and item 0 with code c
keeps :
    (c : ℕ) (cs : List ℕ) (d : Draft) (a x y : ℕ) → a < length cs → length cs ≡ 63
    → list_all in_order cs ≡ true → held c ≡ sum_by held cs → most c ≡ sum_by most cs
    → reels_stay d (slice_index cs a, c) ≡ true
    → x ≡ code_after d (slice_index cs a) → y ≡ code_after d c
    → stock_valid (y ∷ slice_set cs a x) ≡ true
keeps c cs d a x y la len ok h m stay ex ey =
    let p : ℕ = d.procedure in
    let n : ℕ = d.amount in
    let shelf : ℕ = slice_index cs a in
    let s = and_parts _ (shelf_stays d shelf) stay in
    let t = and_parts (code_stays d shelf) (code_stays d c) s.0 in
    let hx = held_left d shelf x t.0 ex in
    let mx = most_left d shelf x t.0 ex in
    let hy = held_left d c y t.1 ey in
    let my = most_left d c y t.1 ey in
    let order : in_order x ≡ true = ap (λ z. shelf_ok z (most x)) hx ∙ ap (λ z. shelf_ok (held_after p (held shelf) n) z) mx ∙ s.1 in
    let hs = sum_by-set held cs a x 0 la in
    let ms = sum_by-set most cs a x 0 la in
    let hz = held_moves p (held shelf) (most shelf) (held c) n (sum_by held cs) (sum_by held (slice_set cs a x)) t.0 h (hs ∙ ap (λ z. sum_by held cs + z) hx) in
    let mz = most_moves p (most shelf) (most c) n (sum_by most cs) (sum_by most (slice_set cs a x)) m (ms ∙ ap (λ z. sum_by most cs + z) mx) in
    and_from _ _
    (eq-eqb _ 64 (ap suc (length-set cs a x ∙ len)))
    (and_from _ _ (all_set in_order cs a x order ok) (and_from _ _ (eq-eqb _ _ (hy ∙ hz)) (eq-eqb _ _ (my ∙ mz))))

-- what is taken is a shelf and item 0
shelf_taken : (d : Draft) → stock_takes d ≡ true → (nat_le 1 d.a ≡ true) × (nat_le d.a 63 ≡ true)
shelf_taken d t =
    let items = (and_parts (is_procedure d.procedure) _ t).1 in
    and_parts (nat_le 1 d.a) (nat_le d.a 63) (and_parts (nat_le 1 d.a && nat_le d.a 63) (d.b == 0) items).0

none_at_zero : (d : Draft) → d.a ≡ 0 → stock_takes d ≢ true
none_at_zero d z t = let a = leb-true 1 d.a (shelf_taken d t).0 in omega arith

only_at_zero : (d : Draft) → stock_takes d ≡ true → d.b ≡ 0
only_at_zero d t =
    let items = (and_parts (is_procedure d.procedure) _ t).1 in
    eqb-true d.b 0 (and_parts (nat_le 1 d.a && nat_le d.a 63) (d.b == 0) items).1

-- by the items of the draft: a is past item 0, and b is item 0
kept :
    (codes : List ℕ) (d : Draft) (a b x y : ℕ) → d.a ≡ a → d.b ≡ b → stock_valid codes ≡ true
    → stock_step d (codes_at codes a b) ≡ Ok (x, y) → stock_valid (slice_set (slice_set codes a x) b y) ≡ true
kept [] d a b x y ea eb v s = absurd (true≢false (sym v))
kept (c ∷ cs) d zero b x y ea eb v s = absurd (none_at_zero d ea (passed (stock_takes d) _ _ (x, y) s).0)
kept (c ∷ cs) d (suc a) (suc b) x y ea eb v s =
    let z = only_at_zero d (passed (stock_takes d) _ _ (x, y) s).0 in
    absurd (omega arith)
kept (c ∷ cs) d (suc a) zero x y ea eb v s =
    let takes = passed (stock_takes d) _ _ (x, y) s in
    let within : nat_le d.a 63 ≡ true = (shelf_taken d takes.0).1 in
    let s2 = (passed (amount_ok 10000 d.amount) _ _ (x, y) takes.1).1 in
    let s3 = passed (reels_stay d (slice_index cs a, c)) _ _ (x, y) s2 in
    let q : ◌≡◌ {A = ℕ × ℕ} (code_after d (slice_index cs a), code_after d c) (x, y) = same_ok _ _ s3.1 in
    let vl = and_parts (suc (length cs) == 64) _ v in
    let vo = and_parts (list_all in_order cs) _ vl.1 in
    let vs = and_parts (held c == sum_by held cs) (most c == sum_by most cs) vo.1 in
    let len = eqb-true (suc (length cs)) 64 vl.0 in
    let last = leb-true d.a 63 within in
    keeps c cs d a x y (omega arith) (omega arith) vo.0
    (eqb-true (held c) (sum_by held cs) vs.0) (eqb-true (most c) (sum_by most cs) vs.1)
    s3.0 (sym (ap (λ (z : ℕ × ℕ). z.0) q)) (sym (ap (λ (z : ℕ × ℕ). z.1) q))

pub stock_has_64_codes : ValidHas64Codes stock
stock_has_64_codes codes v = eqb-true (length codes) 64 (and_parts (length codes == 64) _ v).0

pub stock_keeps : StepKeepsValid stock
stock_keeps codes d x y la lb ne v s = kept codes d d.a d.b x y refl refl v s
