-- A valid list of the ledger has 64 codes, and its step keeps it valid: what a gains, b loses.
use Rattle.std.specs.Prelude.{◌≡◌, ℕ, ◌<◌, Bool, true, false, List, map, length, get_or, set, ℤ, pos, negsuc, ◌+ℤ◌, neg_ℤ, Some, None, Ok, Option, FitsSigned, ◌==◌, ◌≢◌, slice_index_or, slice_set, refl, if◌then◌else◌}
use Rattle.std.proofs.Common.{sym, ap, ◌∙◌, arith}
use Rattle.std.specs.Int.{w64}
use Rattle.std.proofs.lemmas.List.{length-set, length-map, map-set, get_or-map, get_or-set_other}
use Rattle.std.proofs.lemmas.Int.{ints, to_z-of_z}
use Rattle.std.proofs.lemmas.Bool.{and_parts, and_from, eq-eqb, eqb-true}
use Rattle.std.specs.List.{list_all}
use Rattle.lists.specs.Answers.{passed}
use Rattle.lists.specs.Elements.{all_set}
use Rattle.books.specs.Meaning.{ValidHas64Codes, StepKeepsValid, amount_ok}
use Rattle.ledger.specs.Ledger.{ledger, ledger_takes, balance, balance_code, balance_stays, within, is_zero, total, code_changed, both}
use Rattle.ledger.specs.Totals.{total_set, within_bounds}

-- both codes were there
pub both_given : (o q : Option ℕ) (x y : ℕ) → both o q ≡ Ok (x, y) → (o ≡ Some x) × (q ≡ Some y)
both_given None q x y e = absurd (let z : ◌≡◌ {A = ℕ} 0 1 = cc in omega arith)
both_given (Some v) None x y e = absurd (let z : ◌≡◌ {A = ℕ} 0 1 = cc in omega arith)
both_given (Some v) (Some w) x y e =
    let q : ◌≡◌ {A = ℕ × ℕ} (v, w) (x, y) = cc in
    (ap (λ (z : ℕ × ℕ). Some z.0) q, ap (λ (z : ℕ × ℕ). Some z.1) q)

-- a balance within its bounds fits 64 bits
within_fits : (z : ℤ) → within z ≡ true → FitsSigned w64 z
within_fits (pos k) h = record { sfits = omega (arith, ints, (within_bounds (pos k) h).1) }
within_fits (negsuc k) h = record { sfits = omega (arith, ints, (within_bounds (negsuc k) h).0) }

-- so it is what its code stands for
balance_back : (z : ℤ) → within z ≡ true → balance (balance_code z) ≡ z
balance_back z h = to_z-of_z w64 z (within_fits z h)

-- a changed code stands for the changed balance, which lies within its bounds
changed_by : (t : Bool) (z d : ℤ) (x : ℕ) → balance_stays z d ≡ t → (if t then Some (balance_code (z +ℤ d)) else None) ≡ Some x → (within (balance x) ≡ true) × (balance x ≡ z +ℤ d)
changed_by true z d x s e =
    let w = (and_parts (within z) (within (z +ℤ d)) s).1 in
    let c : balance_code (z +ℤ d) ≡ x = cc in
    let b : balance x ≡ z +ℤ d = ap balance (sym c) ∙ balance_back (z +ℤ d) w in
    (ap within b ∙ w, b)
changed_by false z d x s e = absurd (let n : ◌≡◌ {A = ℕ} 0 1 = cc in omega arith)

-- two balances replaced, with the same sum before and after
still_zero : (zs : List ℤ) (a b : ℕ) (x y : ℤ) → a < length zs → b < length zs → (a ≢ b) → x +ℤ y ≡ slice_index_or zs a (pos 0) +ℤ slice_index_or zs b (pos 0) → is_zero (total zs) ≡ true → is_zero (total (slice_set (slice_set zs a x) b y)) ≡ true
still_zero zs a b x y la lb ne e z =
    let p = total_set zs a x (pos 0) la in
    let q = total_set (slice_set zs a x) b y (pos 0) (simp length-set lb) in
    let r = get_or-set_other zs a b x (pos 0) (λ h. ne (sym h)) in
    let s : total (slice_set (slice_set zs a x) b y) ≡ total zs = omega (arith, ints, p, q, r) in
    ap is_zero s ∙ z

pub ledger_has_64_codes : ValidHas64Codes ledger
ledger_has_64_codes cs v = eqb-true (length cs) 64 (and_parts (length cs == 64) _ v).0

pub ledger_keeps : StepKeepsValid ledger
ledger_keeps cs d x y la lb ne v s =
    let a : ℕ = d.a in
    let b : ℕ = d.b in
    let more : ℤ = pos d.amount in
    let less : ℤ = neg_ℤ (pos d.amount) in
    let X : ℕ = get_or cs a 0 in
    let Y : ℕ = get_or cs b 0 in
    let s1 = (passed (ledger_takes d) _ _ (x, y) s).1 in
    let s2 = (passed (amount_ok 1000000000 d.amount) _ _ (x, y) s1).1 in
    let given = both_given (code_changed X more) (code_changed Y less) x y s2 in
    let cx = changed_by (balance_stays (balance X) more) (balance X) more x refl given.0 in
    let cy = changed_by (balance_stays (balance Y) less) (balance Y) less y refl given.1 in
    let vl = and_parts (length cs == 64) _ v in
    let vr = and_parts (list_all within (map balance cs)) (is_zero (total (map balance cs))) vl.1 in
    let len : length cs ≡ 64 = ledger_has_64_codes cs v in
    let za : a < length (map balance cs) = simp length-map (omega arith) in
    let zb : b < length (map balance cs) = simp length-map (omega arith) in
    let ga : get_or (map balance cs) a (pos 0) ≡ balance X = get_or-map balance cs a 0 (pos 0) (omega arith) in
    let gb : get_or (map balance cs) b (pos 0) ≡ balance Y = get_or-map balance cs b 0 (pos 0) (omega arith) in
    let moved : map balance (slice_set (slice_set cs a x) b y) ≡ set (slice_set (map balance cs) a (balance x)) b (balance y) = simp map-set in
    let sums : balance x +ℤ balance y ≡ slice_index_or (map balance cs) a (pos 0) +ℤ get_or (map balance cs) b (pos 0) = omega (arith, ints, cx.1, cy.1, ga, gb) in
    and_from _ _
    (eq-eqb _ 64 (simp length-set len))
    (and_from _ _
    (ap (list_all within) moved ∙ all_set within (slice_set (map balance cs) a (balance x)) b (balance y) cy.0 (all_set within (map balance cs) a (balance x) cx.0 vr.0))
    (ap (λ zs. is_zero (total zs)) moved ∙ still_zero (map balance cs) a b (balance x) (balance y) za zb ne sums vr.1))
