-- One write more in a run of writes.
use Rattle.std.proofs.Common.{◌≡◌, ℕ, ◌+◌, ◌<◌, ◌≤◌, Ok, List, [], ◌∷◌, ◌++◌, Contains, length, get_or, set, take, drop, sym, ap, ◌∙◌, subst, inl, inr, arith}
use Rattle.std.proofs.lemmas.List.{length-set, take_more, take_all, take-append-drop}
use Rattle.std.proofs.lemmas.List.Elements.{Contains-append_left, Contains-push, Contains-get_or}
use Rattle.drives.specs.Disk.{Disk, size, GainsOnly}
use Rattle.std.proofs.lemmas.Result.{MatchResult-weaker}
use Rattle.drives.specs.Calls.{DriveAnswer, Written, CutWriting, Flushes}
use Rattle.changes.specs.CommitBlock.{zeros}
use Rattle.changes.specs.declared.home.Home.{Home}
use Rattle.changes.specs.Homes.{home_at}
use Rattle.journals.specs.Redo.{overlay}
use Rattle.journals.specs.Steps.{GainsAtMost, BlocksWritten, CutWritingBlocks, BlocksStored, CommitBlockStored, StoresBlocks, StoresCommitBlock, Installs, in_flush, in_zeroing}
use Rattle.journals.specs.Laws.Overlay.{overlay_length, overlay_push}

-- writes leave the size as it was, and so do their flush, and a commit block and its flush
pub written_size : (homes : List Home) (d e : Disk) → BlocksWritten homes d e → size e ≡ size d
written_size homes d e u = ap length u.blocks ∙ overlay_length homes d.blocks

pub stored_size : (homes : List Home) (d e : Disk) → BlocksStored homes d e → size e ≡ size d
stored_size homes d e s = ap length s.flushes.blocks ∙ written_size homes d s.written s.writes

pub commit_size : (c : List ℕ) (d e : Disk) → CommitBlockStored c d e → size e ≡ size d
commit_size c d e s = ap length (s.flushes.blocks ∙ s.writes.blocks) ∙ length-set d.blocks 0 c

-- the homes so far, and the write of a content to a block, which is the next home
module _ (homes : List Home) (i : ℕ) (z : Home) (b : ℕ) (x : List ℕ) (here : i < length homes) (at : get_or homes i z ≡ home_at b x) (d e f : Disk) (u : BlocksWritten (take i homes) d e) where
  more : take (i + 1) homes ≡ take i homes ++ home_at b x ∷ []
  more = take_more homes i z here ∙ ap (λ h. take i homes ++ h ∷ []) at

  -- the lists gain what they gained before, and the new content
  gains_more : (into : List Home) → ((y : Home) → Contains (take i homes) y → Contains into y) → Contains into (home_at b x) → GainsOnly e b x f → GainsAtMost into d f
  gains_more into old new v k y l h =
      elim (v k y (omega (arith, written_size (take i homes) d e u)) h) [
        | inl a ↦ elim (u.gains k y l a) [ inl c ↦ inl c | inr w ↦ inr (old (home_at k y) w) ]
        | inr w ↦ (let same : home_at b x ≡ home_at k y = λ j. home_at (sym w.0 j) (sym w.1 j) in inr (subst (Contains into) same new))
      ]

  -- the write is done
  pub written_more : Written e b x f → BlocksWritten (take (i + 1) homes) d f
  written_more v =
      record {
        on = v.on;
        blocks = v.blocks ∙ ap (λ p. set p b x) u.blocks ∙ sym (ap (λ l. overlay l d.blocks) more ∙ overlay_push (take i homes) (home_at b x) d.blocks);
        gains = gains_more (take (i + 1) homes)
            (λ y w. subst (λ l. Contains l y) (sym more) (Contains-append_left (take i homes) (home_at b x ∷ []) y w))
            (subst (λ l. Contains l (home_at b x)) (sym more) (Contains-push (take i homes) (home_at b x)))
            v.gains;
      }

  -- it loses power
  pub written_cut : CutWriting e b x f → CutWritingBlocks homes d f
  written_cut v =
      record {
        off = v.off;
        same_size = v.same_size ∙ written_size (take i homes) d e u;
        gains = gains_more homes
            (λ y w. subst (λ l. Contains l y) (take-append-drop i homes) (Contains-append_left (take i homes) (drop i homes) y w))
            (subst (Contains homes) at (Contains-get_or homes i z here))
            v.gains;
      }

-- all of them
pub written_all : (homes : List Home) (i : ℕ) (d e : Disk) → length homes ≤ i → BlocksWritten (take i homes) d e → BlocksWritten homes d e
written_all homes i d e l u = subst (λ hs. BlocksWritten hs d e) (take_all i homes l) u

-- the flush after them
pub stores : {homes : List Home} {d m e : Disk} {r : DriveAnswer} → BlocksWritten homes d m → Flushes m r e → StoresBlocks homes d r e
stores {homes} {d} {m} {e} {r} u f =
    MatchResult-weaker r (f.met u.on) (λ _ g. record { written = m; writes = u; flushes = g }) (λ _ g. in_flush u g.1)

-- and the commit block of zeros after that
pub installs : {homes : List Home} {d m h : Disk} (e : Disk) {x : Unit {0}} (r : DriveAnswer) → BlocksWritten homes d m → Flushes m (Ok x) h → StoresCommitBlock zeros h r e → Installs homes d r e
installs {homes} {d} {m} {h} e {x} r u f c =
    let s : BlocksStored homes d h = record { written = m; writes = u; flushes = f.met u.on } in
    MatchResult-weaker r c (λ _ k. record { home = h; stores = s; zeroes = k }) (λ _ k. in_zeroing s k)
