-- From a power call that was done to the verdict.
use Rattle.std.proofs.Common.{◌≡◌, ℕ, ◌≤◌, Bool, true, false, Ok, Err, Result, sym, ap, ◌∙◌, inl, inr, arith}
use Rattle.std.specs.Prelude.{not, if◌then◌else◌}
use Rattle.std.specs.Result.{MatchResult}
use Rattle.std.proofs.lemmas.Bool.{both_ways, cases_Bool}
use Rattle.std.proofs.lemmas.Bool.Decides.{not_from_Decides}
use Rattle.refusals.specs.declared.places.PowerPlace.TheVariants.{Starting}
use Rattle.refusals.specs.declared.reason.Reason.TheVariants.{BadSize, BadCommitBlock}
use Rattle.refusals.specs.declared.refusal.Refusal.{Refusal}
use Rattle.refusals.specs.Refused.{refused, lost_at}
use Rattle.lists.specs.Answers.{not_ok, same_err}
use Rattle.books.specs.Meaning.{Meaning}
use Rattle.changes.specs.CommitBlock.{lawful_commit}
use Rattle.changes.specs.Laws.{lawful_decides}
use Rattle.journals.specs.declared.faults.FinishFault.{FinishFault}
use Rattle.journals.specs.declared.faults.FinishFault.TheVariants as fault
use Rattle.journals.specs.Outcomes.{TurnedOn, Finishes}
use Rattle.journals.specs.Redo.{commit_block, finished, home_blocks}
use Rattle.journals.specs.JournalState.{JournalState, size, home_of}
use Rattle.image.specs.Laws.{size_low}
use Rattle.image.specs.Layout.{lawful_size, room}
use Rattle.image.specs.Verdict.{home_verdict, verdict}
use Rattle.image.specs.Inspects.{Inspects, PoweredOn, WentOn, finishing_cut, commit_unlawful, judged as was_judged, powered_on, unfinished_for}

module _ (m : Meaning) (d p e : JournalState) (fits : lawful_size (size d) ≡ true) (on : TurnedOn d p) where
  wide : 7 ≤ size p
  wide = omega (arith, size_low (size d) fits, on.same_size)

  left_lawful : lawful_size (size p) ≡ true
  left_lawful = ap lawful_size on.same_size ∙ fits

  -- an inspection that came so far
  inspected : (r : Result ℕ Refusal) → WentOn m p r e → PoweredOn m d r e
  inspected r o = record { left = p; turned_on = on; went_on = o }

  pub inspects_on : (r : Result ℕ Refusal) → PoweredOn m d r e → Inspects m d r e
  inspects_on r o = record { refused_size = λ f. absurd (both_ways _ f fits); met = λ _. powered_on o }

  -- the verdict, once the commit block is tested
  verdict_by :
      (t : Bool) → lawful_commit (size p) (commit_block p.blocks) ≡ t
      → verdict m p.blocks ≡ (if not t then refused BadCommitBlock 0 else home_verdict m (room (size p)) (home_blocks (finished p.blocks)))
  verdict_by t c =
      ap (λ z. if not z then refused BadSize (size p) else if not (lawful_commit (size p) (commit_block p.blocks)) then refused BadCommitBlock 0 else home_verdict m (room (size p)) (home_blocks (finished p.blocks))) left_lawful
      ∙ ap (λ z. if not z then refused BadCommitBlock 0 else home_verdict m (room (size p)) (home_blocks (finished p.blocks))) c

  different : (x : FinishFault) → (◌≡◌ {A = Result (Unit {0}) FinishFault} (Ok tt) (Err x)) → ⊥
  different x q = not_ok tt x q

  -- what finishing answers to an unlawful commit block
  unlawful_says : (f : Result (Unit {0}) FinishFault) → Finishes p f e → lawful_commit (size p) (commit_block p.blocks) ≡ false → (f ≡ Err fault.Unlawful) × (e ≡ p)
  unlawful_says f k n = k.refused_unlawful on.on (not_from_Decides _ (lawful_decides (size p) (commit_block p.blocks)) n)

  pub inspect_judged : (r : Result ℕ Refusal) → Finishes p (Ok tt) e → r ≡ home_verdict m (room (size e)) (home_of e) → PoweredOn m d r e
  inspect_judged r f a =
      elim (cases_Bool (lawful_commit (size p) (commit_block p.blocks))) [
        | inr n ↦ absurd (different fault.Unlawful (unlawful_says (Ok tt) f n).0)
        | inl y ↦ (
            let lawful = (lawful_decides (size p) (commit_block p.blocks)).0 y in
            let done = f.met on.on wide lawful in
            inspected r (was_judged
            (a ∙ ap (λ z. home_verdict m (room z) (home_of e)) done.same_size ∙ ap (home_verdict m (room (size p))) done.home_now ∙ sym (verdict_by true y))
            lawful done))
      ]

  inspect_unlawful : (r : Result ℕ Refusal) → Finishes p (Err fault.Unlawful) e → r ≡ refused BadCommitBlock 0 → PoweredOn m d r e
  inspect_unlawful r f a =
      elim (cases_Bool (lawful_commit (size p) (commit_block p.blocks))) [
        | inr n ↦ (
            let u = not_from_Decides _ (lawful_decides (size p) (commit_block p.blocks)) n in
            inspected r (commit_unlawful (a ∙ sym (verdict_by false n)) u (unlawful_says (Err fault.Unlawful) f n).1))
        | inl y ↦ absurd (let q = (f.met on.on wide ((lawful_decides (size p) (commit_block p.blocks)).0 y)).0 in let z : ◌≡◌ {A = ℕ} 0 1 = cc in omega arith)
      ]

  inspect_lost : (r : Result ℕ Refusal) (x : FinishFault) → (x ≡ fault.Unlawful → ⊥) → Finishes p (Err x) e → r ≡ Err (lost_at Starting) → PoweredOn m d r e
  inspect_lost r x nu f a =
      elim (cases_Bool (lawful_commit (size p) (commit_block p.blocks))) [
        | inr n ↦ absurd (nu (same_err x fault.Unlawful (unlawful_says (Err x) f n).0))
        | inl y ↦ (
            let lawful = (lawful_decides (size p) (commit_block p.blocks)).0 y in
            inspected r (finishing_cut a lawful (f.met on.on wide lawful).1))
      ]

  inspect_unfinished : (r : Result ℕ Refusal) (x : FinishFault) → Finishes p (Err x) e → r ≡ Err (unfinished_for x) → PoweredOn m d r e
  inspect_unfinished r fault.Off f a = inspect_lost r fault.Off (λ q. (let z : ◌≡◌ {A = ℕ} 0 1 = cc in omega arith)) f a
  inspect_unfinished r fault.Unlawful f a = inspect_unlawful r f a
  inspect_unfinished r fault.PowerLost f a = inspect_lost r fault.PowerLost (λ q. (let z : ◌≡◌ {A = ℕ} 0 1 = cc in omega arith)) f a

  -- finishing did not end, and the answer says so
  pub inspect_refused : (f : Result (Unit {0}) FinishFault) (r : Result ℕ Refusal) → Finishes p f e → MatchResult f (λ _. ⊥) (λ x. r ≡ Err (unfinished_for x)) → PoweredOn m d r e
  inspect_refused (Ok x) r f h = absurd h
  inspect_refused (Err x) r f h = inspect_unfinished r x f h
