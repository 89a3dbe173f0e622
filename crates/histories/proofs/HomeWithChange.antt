-- What stands at home after a change: each of its homes holds its content, and every other block
-- what it held.
use Rattle.std.proofs.Common.{◌≡◌, ◌≢◌, ℕ, ◌<◌, ◌≤◌, List, [], ◌∷◌, ◌++◌, length, get_or, set, sym, refl, ◌∙◌, subst, arith}
use Rattle.std.proofs.lemmas.List.{length-set, get_or-set_same, get_or-set_other}
use Rattle.changes.specs.declared.home.Home.{Home}
use Rattle.journals.specs.Outcomes.{home_with}
use Rattle.journals.specs.Redo.{overlay, home_blocks}
use Rattle.journals.specs.JournalState.{JournalState, size, home_of}
use Rattle.image.specs.Home.{block_at}
use Rattle.image.specs.Laws.{at_home}

-- the numbers rise strictly, above one number and below another
abbrev pub Rises : ℕ → ℕ → List Home → Type 0
Rises low high [] = Unit {0}
Rises low high (x ∷ xs) = (low < x.number) × (x.number < high) × Rises x.number high xs

-- block k is none of them
abbrev pub Misses : ℕ → List Home → Type 0
Misses k [] = Unit {0}
Misses k (x ∷ xs) = (x.number ≢ k) × Misses k xs

-- each of them stands
abbrev pub Stand : List (List ℕ) → List Home → Type 0
Stand h [] = Unit {0}
Stand h (x ∷ xs) = (block_at h x.number ≡ x.content) × Stand h xs

misses_below : (xs : List Home) (low high k : ℕ) → k ≤ low → Rises low high xs → Misses k xs
misses_below [] low high k l r = tt
misses_below (x ∷ xs) low high k l r = ((λ e. omega (arith, r.0)), misses_below xs x.number high k (omega (arith, r.0)) r.2)

pub misses_above : (xs : List Home) (low high k : ℕ) → high ≤ k → Rises low high xs → Misses k xs
misses_above [] low high k l r = tt
misses_above (x ∷ xs) low high k l r = ((λ e. omega (arith, r.1)), misses_above xs x.number high k l r.2)

-- one home more behind the others
rises_push : (xs : List Home) (y : Home) (low high n : ℕ) → Rises low high xs → low < y.number → high ≤ y.number → y.number < n → Rises low n (xs ++ (y ∷ []))
rises_push [] y low high n r l h u = (l, u, tt)
rises_push (x ∷ xs) y low high n r l h u = (r.0, omega (arith, r.1), rises_push xs y x.number high n r.2 (omega (arith, r.1)) h u)

misses_push : (xs : List Home) (y : Home) (k : ℕ) → Misses k xs → (y.number ≢ k) → Misses k (xs ++ (y ∷ []))
misses_push [] y k m n = (n, tt)
misses_push (x ∷ xs) y k m n = (m.0, misses_push xs y k m.1 n)

stand_parts : (h : List (List ℕ)) (xs : List Home) (y : Home) → Stand h (xs ++ (y ∷ [])) → Stand h xs × (block_at h y.number ≡ y.content)
stand_parts h [] y s = (tt, s.0)
stand_parts h (x ∷ xs) y s =
    let r = stand_parts h xs y s.1 in ((s.0, r.0), r.1)

elsewhere : (xs : List Home) (p : List (List ℕ)) (k : ℕ) → Misses k xs → get_or (overlay xs p) k [] ≡ get_or p k []
elsewhere [] p k m = refl
elsewhere (x ∷ xs) p k m = elsewhere xs (set p x.number x.content) k m.1 ∙ get_or-set_other p x.number k x.content [] (λ e. m.0 (sym e))

stands : (xs : List Home) (p : List (List ℕ)) (low : ℕ) → 6 ≤ low → Rises low (length p) xs → Stand (home_blocks (overlay xs p)) xs
stands [] p low l r = tt
stands (x ∷ xs) p low l r =
    let q = set p x.number x.content in (
      at_home (overlay xs q) x.number (omega (arith, r.0))
          ∙ elsewhere xs q x.number (misses_below xs x.number (length p) x.number (omega arith) r.2)
          ∙ get_or-set_same p x.number x.content [] r.1,
      stands xs q x.number (omega (arith, r.0)) (subst (λ n. Rises x.number n xs) (sym (length-set p x.number x.content)) r.2),
    )

-- what a change of the head, of some blocks from 8 to 31 and of one block more made of what stood
-- at home
pub record Moved (h i : List (List ℕ)) (head : Home) (xs : List Home) (last : Home) : Type 0 where
  pub heads : block_at i 7 ≡ head.content
  pub blocks : Stand i xs
  pub enters : block_at i last.number ≡ last.content
  pub others : (k : ℕ) → 7 < k → Misses k xs → (last.number ≢ k) → block_at i k ≡ block_at h k

pub moved :
    (d : JournalState) (content : List ℕ) (xs : List Home) (last : Home) → Rises 7 32 xs → 32 ≤ last.number → last.number < size d
    → (let head : Home = record { number = 7; content = content } in Moved (home_of d) (home_with (head ∷ (xs ++ (last ∷ []))) d) head xs last)
moved d content xs last r l u =
    let head : Home = record { number = 7; content = content } in
    let all : List Home = head ∷ (xs ++ (last ∷ [])) in
    let s = stands all d.blocks 6 (omega arith) (omega arith, omega arith, rises_push xs last 7 32 (size d) r (omega arith) l u) in
    let parts = stand_parts (home_with all d) xs last s.1 in
    record {
      heads = s.0;
      blocks = parts.0;
      enters = parts.1;
      others = λ k h m n. (at_home (overlay all d.blocks) k (omega arith)
          ∙ elsewhere all d.blocks k ((λ e. omega arith), misses_push xs last k m n) ∙ sym (at_home d.blocks k (omega arith)));
    }
