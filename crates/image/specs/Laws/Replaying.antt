-- Records that stand in exact form are applied as the verdict applies them.
use Rattle.std.proofs.Common.{◌≡◌, ℕ, zero, suc, List, [], ◌∷◌, length, Some, None, Ok, Err, Option, Result, sym, refl, ap, ◌∙◌, arith}
use Rattle.refusals.specs.declared.refusal.Refusal.{Refusal}
use Rattle.refusals.specs.Refused.{◌>>=◌}
use Rattle.books.specs.Meaning.{Meaning}
use Rattle.records.specs.declared.record.Record.{Record}
use Rattle.records.specs.Form.{decoded, Exact}
use Rattle.records.specs.Laws.{read_back, exact}
use Rattle.applying.specs.BookState.{BookState}
use Rattle.applying.specs.Applied.{applied, applied_all}
use Rattle.image.specs.Home.{block_at, record_on}
use Rattle.image.specs.Layout.{record_block}
use Rattle.image.specs.Lawful.{StandFrom}
use Rattle.image.specs.Verdict.{at_record, replayed_record, replayed}

-- what an exact block is read as
pub read_exact : (k : ℕ) (x : Record) (c : List ℕ) → Exact k x c → decoded k c ≡ Some x
read_exact k x c f = ap (decoded k) (sym f.form) ∙ read_back k x f.fits

module _ (m : Meaning) (most : ℕ) (h : List (List ℕ)) where
  -- one record, and then the rest
  replay_one :
      (n k : ℕ) (t : BookState) (xs : List Record)
      → ((u : BookState) → applied_all m most u xs ≡ Ok t → replayed m most h n (suc k) u ≡ Ok t)
      → (r : Result BookState Refusal) → (r >>= λ u. applied_all m most u xs) ≡ Ok t → (at_record k r >>= replayed m most h n (suc k)) ≡ Ok t
  replay_one n k t xs next (Ok u) c = next u c
  replay_one n k t xs next (Err e) c = absurd (let z : ◌≡◌ {A = ℕ} 0 1 = cc in omega arith)

  -- the records that stand are replayed
  pub replay_standing : (n k : ℕ) (s t : BookState) (xs : List Record) → length xs ≡ n → StandFrom h k xs → applied_all m most s xs ≡ Ok t → replayed m most h n k s ≡ Ok t
  replay_standing zero k s t [] l f c = c
  replay_standing (suc n) k s t [] l f c = absurd (omega arith)
  replay_standing zero k s t (x ∷ xs) l f c = absurd (omega arith)
  replay_standing (suc n) k s t (x ∷ xs) l f c =
      ap (λ z. replayed_record m most k z s >>= replayed m most h n (suc k)) (read_exact k x (block_at h (record_block k)) f.0)
      ∙ replay_one n k t xs (λ u d. replay_standing n (suc k) u t xs (omega arith) f.1 d) (applied m most s x) c

  -- what was replayed stands
  pub record Replayed (n k : ℕ) (s t : BookState) : Type 0 where
    pub records : List Record
    pub every : length records ≡ n
    pub stand : StandFrom h k records
    pub records_applied : applied_all m most s records ≡ Ok t

  standing_done :
      (n k : ℕ) (s t : BookState) (x : Record) → record_on h k ≡ Some x
      → ((u : BookState) → replayed m most h n (suc k) u ≡ Ok t → Replayed n (suc k) u t)
      → (r : Result BookState Refusal) → applied m most s x ≡ r → (at_record k r >>= replayed m most h n (suc k)) ≡ Ok t → Replayed (suc n) k s t
  standing_done n k s t x o next (Err f) c e = absurd (let z : ◌≡◌ {A = ℕ} 0 1 = cc in omega arith)
  standing_done n k s t x o next (Ok u) c e =
      let r = next u e in
      record {
        records = x ∷ r.records;
        every = ap suc r.every;
        stand = (exact k x (block_at h (record_block k)) o, r.stand);
        records_applied = ap (λ z. z >>= λ v. applied_all m most v r.records) c ∙ r.records_applied;
      }

  standing_one :
      (n k : ℕ) (s t : BookState) → ((u : BookState) → replayed m most h n (suc k) u ≡ Ok t → Replayed n (suc k) u t)
      → (o : Option Record) → record_on h k ≡ o
      → (replayed_record m most k o s >>= replayed m most h n (suc k)) ≡ Ok t → Replayed (suc n) k s t
  standing_one n k s t next None o e = absurd (let z : ◌≡◌ {A = ℕ} 0 1 = cc in omega arith)
  standing_one n k s t next (Some x) o e = standing_done n k s t x o next (applied m most s x) refl e

  pub standing_replay : (n k : ℕ) (s t : BookState) → replayed m most h n k s ≡ Ok t → Replayed n k s t
  standing_replay zero k s t e = record { records = []; every = refl; stand = tt; records_applied = e }
  standing_replay (suc n) k s t e = standing_one n k s t (λ u d. standing_replay n (suc k) u t d) (record_on h k) refl e
