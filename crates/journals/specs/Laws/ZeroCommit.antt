-- Commit blocks that name nothing.
use Rattle.std.proofs.Common.{◌≡◌, ℕ, List, length, ap, get_or, sym, ◌∙◌, subst, inl, inr, arith}
use Rattle.std.proofs.lemmas.List.FromFn.{length-map-range_with_len}
use Rattle.std.proofs.lemmas.List.{get_or-replicate, get_or_past}
use Rattle.std.proofs.lemmas.Bool.{cases_eq, cases_lt}
use Rattle.changes.specs.CommitBlock.{count_of, number_of, named_in, zeros, LawfulCommit}
use Rattle.journals.specs.JournalState.{IsZero}

pub lawful_same : (m n : ℕ) (b c : List ℕ) → m ≡ n → b ≡ c → LawfulCommit n c → LawfulCommit m b
lawful_same m n b c e f l =
    subst (λ k. LawfulCommit k b) (sym e) (subst (λ x. LawfulCommit n x) (sym f) l)

zeros_at : (j : ℕ) → get_or zeros j 0 ≡ 0
zeros_at j =
    elim (cases_lt j 64) [ inl h ↦ get_or-replicate 64 j 0 0 h | inr h ↦ get_or_past zeros j 0 h ]

pub zeros_are_zero : (c : List ℕ) → c ≡ zeros → IsZero c
zeros_are_zero c e j = ap (λ x. get_or x j 0) e ∙ zeros_at j

pub zero_is_lawful : (n : ℕ) (c : List ℕ) → IsZero c → LawfulCommit n c
zero_is_lawful n c z =
    let e : get_or c 0 0 ≡ 0 = z 0 in
    let none : length (named_in c) ≡ 0 =
    length-map-range_with_len (number_of c) 0 (count_of c) ∙ e in
    record {
      few = omega arith;
      rises = record {
        rise = λ i j h k. absurd (omega (arith, none));
        low = λ i h. absurd (omega (arith, none));
        high = λ i h. absurd (omega (arith, none));
      };
      rest = λ j h. z j;
    }

pub lawful_is_zero : (n : ℕ) (c : List ℕ) → count_of c ≡ 0 → LawfulCommit n c → IsZero c
lawful_is_zero n c e l j =
    elim (cases_eq j 0) [
      | inl z ↦ rw z e
      | inr a ↦
          elim (cases_eq j 1) [
            | inl o ↦ l.rest j (inl o)
            | inr b ↦ l.rest j (inr (omega arith))
          ]
    ]

pub zeros_are_lawful : (n : ℕ) → LawfulCommit n zeros
zeros_are_lawful n = zero_is_lawful n zeros zeros_at
