-- What verification has left to test, one shelf at a time.
use Rattle.std.specs.Prelude.{◌≡◌, ℕ, ◌+◌, ◌<◌, ◌≤◌, Bool, true, false, ◌&&◌, List, ◌∷◌, length, drop, fold, sum_by, ◌==◌, nat_le, slice_index}
use Rattle.std.specs.List.{list_all}
use Rattle.std.proofs.Common.{sym, ap, ◌∙◌, arith}
use Rattle.std.proofs.lemmas.List.{at_drop_more, at_drop_all}
use Rattle.std.proofs.lemmas.List.Sums.{sum_by_from}
use Rattle.std.proofs.lemmas.Bool.{and_parts, leb-true, eq-eqb}
use Rattle.stock.specs.Stock.{held, most, shelf_ok, in_order, stock_valid}

-- the shelves that are left are in order and bring the sums so far to those of item 0
abbrev pub stock_left : ℕ → ℕ → ℕ → List ℕ → Bool
stock_left sums h m cs =
    list_all in_order cs
    && (held sums == fold (λ a c. a + held c) h cs && most sums == fold (λ a c. a + most c) m cs)

-- a shelf in order is added to the sums
pub stock_yes :
    (sums h m c : ℕ) (cs : List ℕ) → in_order c ≡ true
    → stock_left sums h m (c ∷ cs) ≡ stock_left sums (h + held c) (m + most c) cs
stock_yes sums h m c cs e =
    ap (λ t. (t && list_all in_order cs) && (held sums == fold (λ a c. a + held c) (h + held c) cs && most sums == fold (λ a c. a + most c) (m + most c) cs)) e

-- one that is not ends the test
pub stock_no :
    (sums h m c : ℕ) (cs : List ℕ) → in_order c ≡ false → stock_left sums h m (c ∷ cs) ≡ false
stock_no sums h m c cs e =
    ap (λ t. (t && list_all in_order cs) && (held sums == fold (λ a c. a + held c) (h + held c) cs && most sums == fold (λ a c. a + most c) (m + most c) cs)) e

-- a shelf in order adds at most 10,000 to each sum
pub order_bounds : (h m : ℕ) → shelf_ok h m ≡ true → (h ≤ 10000) × (m ≤ 10000)
order_bounds h m e =
    let p = and_parts (nat_le h m) (nat_le m 10000) e in
    let q = leb-true h m p.0 in
    let r = leb-true m 10000 p.1 in
    (omega arith, omega arith)

-- a code whose halves are u and v is in order exactly if they are
pub order_of :
    (u v c : ℕ) (t : Bool) → u ≡ held c → v ≡ most c → t ≡ shelf_ok u v → in_order c ≡ t
order_of u v c t eu ev e = ap (λ z. shelf_ok z (most c)) (sym eu) ∙ ap (shelf_ok u) (sym ev) ∙ sym e

-- one shelf more, which is in order and has the halves u and v
pub stock_more :
    (sums h m u v : ℕ) (cs : List ℕ) (i : ℕ) (x : Bool) → i < length cs
    → u ≡ held (slice_index cs i) → v ≡ most (slice_index cs i)
    → in_order (slice_index cs i) ≡ true → stock_left sums h m (drop i cs) ≡ x
    → stock_left sums (h + u) (m + v) (drop (i + 1) cs) ≡ x
stock_more sums h m u v cs i x l eu ev o e =
    ap (λ z. stock_left sums (h + z) (m + v) (drop (i + 1) cs)) eu
    ∙ ap (λ z. stock_left sums (h + held (slice_index cs i)) (m + z) (drop (i + 1) cs)) ev
    ∙ sym (stock_yes sums h m (slice_index cs i) (drop (i + 1) cs) o)
    ∙ sym (at_drop_more (stock_left sums h m) cs i 0 l)
    ∙ e

-- a shelf that is not in order
pub stock_fails :
    (sums h m : ℕ) (cs : List ℕ) (i : ℕ) (x : Bool) → i < length cs
    → in_order (slice_index cs i) ≡ false → stock_left sums h m (drop i cs) ≡ x → x ≡ false
stock_fails sums h m cs i x l o e =
    sym e ∙ at_drop_more (stock_left sums h m) cs i 0 l
    ∙ stock_no sums h m (slice_index cs i) (drop (i + 1) cs) o

-- a sum that starts at 0
summed : (f : ℕ → ℕ) (xs : List ℕ) → fold (λ a c. a + f c) 0 xs ≡ sum_by f xs
summed f xs = omega (arith, sum_by_from f 0 xs)

-- no shelf is left: u and v are the halves of item 0
pub stock_end :
    (cs : List ℕ) (i h m u v : ℕ) → length cs ≡ 64 → length (drop 1 cs) ≤ i
    → u ≡ held (slice_index cs 0) → v ≡ most (slice_index cs 0)
    → stock_left (slice_index cs 0) h m (drop i (drop 1 cs)) ≡ stock_left (slice_index cs 0) 0 0 (drop 1 cs)
    → (u == h && v == m) ≡ stock_valid cs
stock_end cs i h m u v len l eu ev e =
    ap (λ z. (z == h) && v == m) eu
    ∙ ap (λ z. (held (slice_index cs 0) == h) && z == m) ev
    ∙ sym (at_drop_all (stock_left (slice_index cs 0) h m) (drop 1 cs) i l)
    ∙ e
    ∙ ap (λ z. list_all in_order (drop 1 cs) && (held (slice_index cs 0) == z && most (slice_index cs 0) == fold (λ a c. a + most c) 0 (drop 1 cs))) (summed held (drop 1 cs))
    ∙ ap (λ z. list_all in_order (drop 1 cs) && (held (slice_index cs 0) == sum_by held (drop 1 cs) && most (slice_index cs 0) == z)) (summed most (drop 1 cs))
    ∙ sym (ap (λ t. t && (list_all in_order (drop 1 cs) && (held (slice_index cs 0) == sum_by held (drop 1 cs) && most (slice_index cs 0) == sum_by most (drop 1 cs)))) (eq-eqb (length cs) 64 len))
