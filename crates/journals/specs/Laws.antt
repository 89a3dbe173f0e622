-- What the crates above prove with: readiness, what stands, a drive that is taken over, what was
-- read, and what stands at home with a change.
use Rattle.std.proofs.Common.{◌≡◌, ℕ, ◌-◌, ◌<◌, ◌≤◌, List, [], length, get_or, sym, refl, ap, ◌∙◌, inl, inr, Ok, arith}
use Rattle.std.proofs.lemmas.List.{ext_get_or}
use Rattle.std.proofs.lemmas.Bool.{cases_Bool, cases_lt}
use Rattle.lists.specs.Answers.{not_ok, same_ok}
use Rattle.changes.specs.declared.home.Home.{Home}
use Rattle.changes.specs.Homes.{numbers, contents, IsChange}
use Rattle.journals.specs.Redo.{commit_block, home_blocks, finished, overlay}
use Rattle.journals.specs.JournalState.{JournalState, size, present, home_of, IsOn, CrashState, Stands, StandsAlone, Finishable, Ready, TakenOver}
use Rattle.journals.specs.Outcomes.{home_with, ReadsBlock}
use Rattle.journals.specs.declared.faults.JournalFault.TheVariants.{Off, Beyond}
use Rattle.journals.specs.Laws.ZeroCommit.{zero_is_lawful}
use Rattle.journals.specs.Laws.Overlay as overlaying
pub mod Overlay
pub mod Missing
pub mod ZeroCommit

-- a block was read: there is power, there is such a block, and this is what it holds
pub record WasRead (d : JournalState) (b : ℕ) (x : List ℕ) : Type 0 where
  pub on : IsOn d
  pub within : b < size d
  pub content : x ≡ present d b

pub was_read : (d : JournalState) (b : ℕ) (x : List ℕ) → ReadsBlock d b (Ok x) → WasRead d b x
was_read d b x r =
    elim (cases_Bool d.on) [
      | inr off ↦ not_ok x Off (r.refused_off off)
      | inl on ↦ elim (cases_lt b (size d)) [
        | inr beyond ↦ not_ok x Beyond (r.refused_beyond on beyond)
        | inl within ↦
            record { on = on; within = within; content = same_ok x (present d b) (r.met on within) }
      ]
    ]

-- a ready journal
module _ (d : JournalState) (r : Ready d) where
  -- its blocks stand in one way
  ready_crash : (p : List (List ℕ)) → CrashState d p → p ≡ d.blocks
  ready_crash p c =
      ext_get_or [] p d.blocks c.same_size
      (λ k h. r.settled.only k (get_or p k []) (omega (arith, c.same_size)) (c.each k h))

  leaves_home : home_blocks (finished d.blocks) ≡ home_of d
  leaves_home = ap home_blocks (overlaying.finished_nothing d.blocks (r.commit_zero 0))

  -- it can be finished
  pub ready_finishable : Finishable d
  ready_finishable p c =
      zero_is_lawful (length p) (commit_block p)
      (λ j. ap (λ q. get_or (commit_block q) j 0) (ready_crash p c) ∙ r.commit_zero j)

  -- whatever stands on it is what stands at home now
  pub ready_stands : (h : List (List ℕ)) → Stands d h → h ≡ home_of d
  ready_stands h s =
      s.leaves ∙ ap (λ q. home_blocks (finished q)) (ready_crash s.crash s.stood) ∙ leaves_home

  -- and that stands
  pub ready_alone : StandsAlone d (home_of d)
  ready_alone =
      record {
        stands = record {
          crash = d.blocks;
          stood = record { same_size = refl; each = λ k h. r.settled.itself k h };
          lawful = zero_is_lawful (length d.blocks) (commit_block d.blocks) r.commit_zero;
          leaves = sym leaves_home;
        };
        alone = ready_stands;
      }

-- a drive that another journal takes over
module _ (d e : JournalState) (t : TakenOver d e) where
  taken_crash : (p : List (List ℕ)) → CrashState e p → CrashState d p
  taken_crash p c =
      record {
        same_size = c.same_size ∙ t.same_size;
        each = λ k h. t.no_more k (get_or p k []) (omega (arith, c.same_size, t.same_size))
            (c.each k h);
      }

  -- it can be finished if it could be, and nothing stands on it that did not stand
  pub taken_finishable : Finishable d → Finishable e
  taken_finishable f p c = f p (taken_crash p c)

  pub taken_stands : (h : List (List ℕ)) → Stands e h → Stands d h
  taken_stands h s =
      record {
        crash = s.crash;
        stood = taken_crash s.crash s.stood;
        lawful = s.lawful;
        leaves = s.leaves;
      }

-- finishing leaves as many blocks as there were
pub finished_length : (p : List (List ℕ)) → length (finished p) ≡ length p
finished_length = overlaying.finished_length

-- what stands at home with a change
module _ (homes : List Home) (d : JournalState) where
  -- as many blocks as before
  pub changed_length : length (home_with homes d) ≡ length (home_of d)
  changed_length =
      omega (
        arith,
        overlaying.length-home (overlay homes d.blocks),
        overlaying.length-home d.blocks,
        overlaying.overlay_length homes d.blocks,
      )

  -- a block of the change holds its content
  pub changed_at :
      IsChange homes → (i : ℕ) → i < length homes → get_or (numbers homes) i 0 < size d
      → get_or (home_with homes d) (get_or (numbers homes) i 0 - 7) []
      ≡ get_or (contents homes) i []
  changed_at c i h l =
      overlaying.home_block (overlay homes d.blocks) (get_or (numbers homes) i 0) (c.low i h)
      ∙ overlaying.overlay_at homes d.blocks c.rise i h l

  -- any other block holds what it held
  pub changed_elsewhere :
      (k : ℕ) → 7 ≤ k → ((i : ℕ) → i < length homes → get_or (numbers homes) i 0 ≡ k → ⊥)
      → get_or (home_with homes d) (k - 7) [] ≡ get_or (home_of d) (k - 7) []
  changed_elsewhere k low f =
      overlaying.home_block (overlay homes d.blocks) k low
      ∙ overlaying.overlay_elsewhere homes d.blocks k
      (λ w. (let m = overlaying.names_at homes k w in f m.0 m.1 m.2))
      ∙ sym (overlaying.home_block d.blocks k low)
