-- The verdict accepts exactly the lawful images.
use Rattle.std.proofs.Common.{◌≡◌, ℕ, ◌≤◌, ◌&&◌, eqb, leb, List, length, Some, None, Ok, Option, Result, sym, refl, ap, ◌∙◌, subst, arith}
use Rattle.std.proofs.lemmas.Bool.{and_parts, and_from, eq-eqb, eqb-true, le-leb, leb-true}
use Rattle.refusals.specs.declared.refusal.Refusal.{Refusal}
use Rattle.refusals.specs.Refused.{refused, ◌>>=◌}
use Rattle.refusals.specs.declared.reason.Reason.TheVariants.{BadSize, BadCommitBlock, BadHead, InvalidOpening}
use Rattle.std.specs.Prelude.{not, if◌then◌else◌}
use Rattle.std.specs.Option.{option_or}
use Rattle.books.specs.Meaning.{Meaning}
use Rattle.lists.specs.Answers.{passed, same_ok}
use Rattle.refusals.specs.Laws.{accepted_then}
use Rattle.changes.specs.CommitBlock.{lawful_commit}
use Rattle.changes.specs.Laws.{lawful_decides}
use Rattle.journals.specs.Redo.{commit_block, finished, home_blocks}
use Rattle.layout.specs.declared.head.Head.{Head}
use Rattle.layout.specs.Head.{head_of}
use Rattle.layout.specs.Laws.{head_read, head_exact}
use Rattle.applying.specs.BookState.{opened}
use Rattle.image.specs.declared.part.Part.TheVariants.{Items, Rows}
use Rattle.image.specs.Home.{block_at, part_on, opening_on, blocks_of_codes, blocks_of_rows}
use Rattle.image.specs.Layout.{head_block, lawful_size, room}
use Rattle.image.specs.Lawful.{LawfulHome}
use Rattle.image.specs.Verdict.{replayed, part_differing, differing_block, compared, checked_head, checked_opening, home_verdict, AcceptsExactlyLawful}
use Rattle.image.specs.Laws.Replaying.{replay_standing, standing_replay}
use Rattle.image.specs.Laws.Comparing.{none_differs, same_blocks, both_none}

-- what a test accepted
pub tested_head : (m : Meaning) (most : ℕ) (o : Option Head) (d : Head) → checked_head m most o ≡ Ok d → (o ≡ Some d) × (d.kind ≡ m.kind) × (d.count ≤ most)
tested_head m most None d e = absurd (let z : ◌≡◌ {A = ℕ} 0 1 = cc in omega arith)
tested_head m most (Some f) d e =
    let p = passed (eqb f.kind m.kind && leb f.count most) (Ok f) _ d e in
    let q = and_parts (eqb f.kind m.kind) (leb f.count most) p.0 in
    let same : f ≡ d = same_ok f d p.1 in (
      ap Some same,
      ap (λ (z : Head). z.kind) (sym same) ∙ eqb-true f.kind m.kind q.0,
      subst (λ (z : Head). z.count ≤ most) same (leb-true f.count most q.1),
    )

compared_none : (n k : ℕ) (o : Option ℕ) → compared n o ≡ Ok k → o ≡ None
compared_none n k None e = refl
compared_none n k (Some j) e = absurd (let z : ◌≡◌ {A = ℕ} 0 1 = cc in omega arith)

module _ (m : Meaning) (most : ℕ) (h : List (List ℕ)) where
  -- lawful home blocks are accepted
  pub judge_accepts : (l : LawfulHome m most h) → home_verdict m most h ≡ Ok l.head.count
  judge_accepts l =
      let n = l.head.count in
      let head : checked_head m most (head_of (block_at h head_block)) ≡ Ok l.head = ap (checked_head m most) (head_read l.head (block_at h head_block) l.head_stands) ∙ ap (λ t. if not t then refused BadHead head_block else Ok l.head) (and_from _ _ (eq-eqb _ _ l.own_kind) (le-leb _ _ l.found_room)) in
      let opening : checked_opening m (opening_on h) ≡ Ok (opened (opening_on h)) = ap (λ t. if not t then refused InvalidOpening 0 else Ok (opened (opening_on h))) l.valid_opening in
      let replay = replay_standing m most h n 1 (opened (opening_on h)) l.after l.records l.every_record l.records_stand l.records_applied in
      let same : differing_block h l.after ≡ None = ap (λ z. option_or z (part_differing h Rows (blocks_of_rows l.after.rows))) (same_blocks 8 (part_on h Items) (blocks_of_codes l.after.items) l.items_found) ∙ same_blocks 24 (part_on h Rows) (blocks_of_rows l.after.rows) l.rows_found in
      ap (λ r. r >>= λ d. checked_opening m (opening_on h) >>= λ s. replayed m most h d.count 1 s >>= λ t. compared d.count (differing_block h t)) head
      ∙ ap (λ r. r >>= λ s. replayed m most h n 1 s >>= λ t. compared n (differing_block h t)) opening
      ∙ ap (λ r. r >>= λ t. compared n (differing_block h t)) replay
      ∙ ap (compared n) same

  -- what is accepted is lawful
  pub judge_accepted : (n : ℕ) → home_verdict m most h ≡ Ok n → LawfulHome m most h
  judge_accepted n e =
      let d = accepted_then (checked_head m most (head_of (block_at h head_block))) _ n e in
      let f = tested_head m most (head_of (block_at h head_block)) d.0 d.1 in
      let s = accepted_then (checked_opening m (opening_on h)) _ n d.2 in
      let v = passed (m.valid (opening_on h)) (Ok (opened (opening_on h))) _ s.0 s.1 in
      let from = same_ok (opened (opening_on h)) s.0 v.1 in
      let t = accepted_then (replayed m most h d.0.count 1 s.0) _ n s.2 in
      let r = standing_replay m most h d.0.count 1 (opened (opening_on h)) t.0 (ap (replayed m most h d.0.count 1) from ∙ t.1) in
      let blocks = both_none (part_differing h Items (blocks_of_codes t.0.items)) (part_differing h Rows (blocks_of_rows t.0.rows)) (compared_none d.0.count n (differing_block h t.0) t.2) in
      record {
        head = d.0;
        head_stands = head_exact d.0 (block_at h head_block) f.0;
        own_kind = f.1;
        found_room = f.2;
        valid_opening = v.0;
        records = r.records;
        every_record = r.every;
        records_stand = r.stand;
        after = t.0;
        records_applied = r.records_applied;
        items_found = none_differs 8 (part_on h Items) (blocks_of_codes t.0.items) refl blocks.0;
        rows_found = none_differs 24 (part_on h Rows) (blocks_of_rows t.0.rows) refl blocks.1;
      }

-- the verdict on an image of lawful size
abbrev judged_finished : Meaning → List (List ℕ) → Result ℕ Refusal
judged_finished m p =
    if not (lawful_commit (length p) (commit_block p)) then refused BadCommitBlock 0
    else home_verdict m (room (length p)) (home_blocks (finished p))

pub accepts_exactly_lawful : AcceptsExactlyLawful
accepts_exactly_lawful =
    record {
      accepts = λ m p l. (
          ap (λ t. if not t then refused BadSize (length p) else judged_finished m p) l.lawful_length
          ∙ ap (λ t. if not t then refused BadCommitBlock 0 else home_verdict m (room (length p)) (home_blocks (finished p))) ((lawful_decides (length p) (commit_block p)).1 l.lawful_commit)
          ∙ judge_accepts m (room (length p)) (home_blocks (finished p)) l.lawful_home);
      accepted = λ m p n e. (
          let s = passed (lawful_size (length p)) _ _ n e in
          let c = passed (lawful_commit (length p) (commit_block p)) _ _ n s.1 in
          record {
            lawful_length = s.0;
            lawful_commit = (lawful_decides (length p) (commit_block p)).0 c.0;
            lawful_home = judge_accepted m (room (length p)) (home_blocks (finished p)) n c.1;
          });
    }
