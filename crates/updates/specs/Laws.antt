-- What the crates above prove with: laws of an update. Nothing here has to be believed.
use Rattle.std.proofs.Common.{◌≡◌, ◌≢◌, ℕ, ◌+◌, ◌/◌, ◌^◌, ◌<◌, Bool, true, false, eqb, List, []}
use Rattle.std.proofs.Common.{◌∷◌, ◌++◌, set, ap, ◌∙◌, arith}
use Rattle.std.specs.Prelude.{if◌then◌else◌}
use Rattle.std.proofs.lemmas.List.{get_or-set_same}
use Rattle.encoding.specs.Laws.{four_read}
use Rattle.changes.specs.declared.home.Home.{Home}
use Rattle.journals.specs.JournalState.{JournalState, size}
use Rattle.journals.specs.Laws.Missing.{Misses, misses_push, elsewhere}
use Rattle.journals.specs.Outcomes.{home_with}
use Rattle.journals.specs.Redo.{overlay}
use Rattle.records.specs.declared.record.Record.{Record}
use Rattle.records.specs.declared.record.Record.TheVariants.{Posting, Certification, Strike}
use Rattle.layout.specs.declared.head.Head.{Head}
use Rattle.layout.specs.Head.{head_form, fields_of_head}
use Rattle.applying.specs.BookState.{BookState}
use Rattle.image.specs.Home.{block_at, count_on}
use Rattle.image.specs.Laws.{at_home}
use Rattle.updates.specs.Update.{counted, updated_homes, record_home, update_of}

-- behind the head, no block of an update is block 7
items_miss :
    (x y : Home) (t : Bool) → x.number ≢ 7 → y.number ≢ 7
    → Misses 7 (if t then x ∷ [] else x ∷ (y ∷ []))
items_miss x y true p q = (p, tt)
items_miss x y false p q = (p, (q, tt))

homes_miss : (s : BookState) (x : Record) → Misses 7 (updated_homes s x)
homes_miss s (Posting p) =
    items_miss _ _ (eqb (p.a / 8) (p.b / 8)) (λ e. omega arith) (λ e. omega arith)
homes_miss s (Certification c) = ((λ e. omega arith), tt)
homes_miss s (Strike k) = ((λ e. omega arith), tt)

-- the head counts what its form says
pub head_count : (d : Head) → d.count < 2 ^ 32 → (fields_of_head (head_form d)).count ≡ d.count
head_count d l = four_read d.count l

-- after an update the head counts one record more
pub updated_count :
    (d : Head) (x : Record) (s : BookState) (j : JournalState) → d.count + 1 < 2 ^ 32 → 7 < size j
    → count_on (home_with (update_of d x s) j) ≡ d.count + 1
updated_count d x s j few wide =
    let rest : List Home = updated_homes s x ++ (record_home d.count x ∷ []) in
    let miss : Misses 7 rest =
    misses_push (updated_homes s x) (record_home d.count x) 7 (homes_miss s x) (λ e. omega arith) in
    let content : List ℕ = head_form (counted d) in
    let first : block_at (home_with (update_of d x s) j) 7 ≡ content =
    at_home (overlay (update_of d x s) j.blocks) 7 (omega arith)
    ∙ elsewhere rest (set j.blocks 7 content) 7 miss
    ∙ get_or-set_same j.blocks 7 content [] wide in
    ap (λ z. (fields_of_head z).count) first ∙ head_count (counted d) few
