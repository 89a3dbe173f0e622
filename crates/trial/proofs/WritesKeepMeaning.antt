-- What a write makes of a state, as the meaning of a drive says it.
use Rattle.std.proofs.Common.{◌≡◌, ℕ, ◌/◌, ◌<◌, Bool, true, false, cond, List, [], length, get_or, set, Ok, Err, refl, ap, ◌∙◌, inl, inr, arith}
use Rattle.std.proofs.lemmas.List.{length-set, get_or-set_same, get_or-set_other}
use Rattle.std.proofs.lemmas.Bool.{cases_eq}
use Rattle.drives.specs.Disk.{GainsOnly, May}
use Rattle.drives.specs.Calls.{Writes, CutWriting}
use Rattle.drives.specs.declared.drive_fault.DriveFault.TheVariants.{PowerLost}
use Rattle.trial.specs.Bytes.{blocks_of, with_block, disk_of}
use Rattle.trial.specs.TrialState.{TrialState, fault, read_answer}
use Rattle.trial.proofs.SettledBlocks.{own_only, own_itself}
use Rattle.trial.specs.Laws.{length_blocks}
use Rattle.trial.proofs.BlocksOfBytes.{blocks_with}

-- a read or a write that no test refuses
passed : (s : TrialState) (b n : ℕ) → Ok tt ≡ read_answer (fault s b n) → (s.on ≡ true) × (b < length s.bytes / 64) × (n ≡ 64)
passed s b n e = grind arith

-- a write of 64 bytes to block b, which is in the drive: only the new content may stand now that
-- could not before
gains : (o p : Bool) (bs : List ℕ) (b : ℕ) (x : List ℕ) → b < length bs / 64 → length x ≡ 64 → GainsOnly (disk_of o bs) b x (disk_of p (with_block bs b x))
unfolding May
gains o p bs b x within full i y l h =
    let c : List (List ℕ) = blocks_of bs in
    let set_is = blocks_with bs b x within full in
    let own = own_only (blocks_of (with_block bs b x)) i y h in
    let e : y ≡ get_or (set c b x) i [] = own.1 ∙ ap (λ z. get_or z i []) set_is in
    elim (cases_eq i b) [
      | inl z ↦ inr (z, e ∙ ap (λ k. get_or (set c b x) k []) z ∙ get_or-set_same c b x [] (omega (arith, length_blocks bs)))
      | inr ne ↦ inl (
          let within : i < length c = omega (arith, own.0, ap length set_is ∙ length-set c b x) in
          let is : y ≡ get_or c i [] = e ∙ get_or-set_other c b i x [] ne in
          rw is (own_itself c i within))
    ]

-- a write that no test refuses, and that is done
pub writes_done : (s : TrialState) (p : Bool) (cs : List ℕ) (b : ℕ) (x : List ℕ) → Ok tt ≡ read_answer (fault s b (length x)) → p ≡ s.on → cs ≡ with_block s.bytes b x → Writes (disk_of s.on s.bytes) b x (Ok tt) (disk_of p cs)
writes_done s p cs b x e q w =
    let t = passed s b (length x) e in
    let g = gains s.on s.on s.bytes b x t.1 t.2 in
    rw (q, w) (record {
      refused_off = λ off. absurd (grind arith);
      refused_beyond = λ on l. absurd (omega (arith, length_blocks s.bytes));
      refused_buffer = λ on l n. absurd (n t.2);
      met = λ on l n. record { on = t.0; blocks = blocks_with s.bytes b x t.1 t.2; gains = g };
    })

-- a write that no test refuses, and that loses power
pub writes_cut : (s : TrialState) (lands : Bool) (cs : List ℕ) (b : ℕ) (x : List ℕ) → Ok tt ≡ read_answer (fault s b (length x)) → cs ≡ cond lands (with_block s.bytes b x) s.bytes → Writes (disk_of s.on s.bytes) b x (Err PowerLost) (disk_of false cs)
unfolding May
writes_cut s lands cs b x e w =
    let t = passed s b (length x) e in
    let kept : (k : Bool) → CutWriting (disk_of s.on s.bytes) b x (disk_of false (cond k (with_block s.bytes b x) s.bytes)) =
    λ k. elim k as (λ k. CutWriting (disk_of s.on s.bytes) b x (disk_of false (cond k (with_block s.bytes b x) s.bytes))) [
      | true ↦ record { off = refl; same_size = ap length (blocks_with s.bytes b x t.1 t.2) ∙ length-set (blocks_of s.bytes) b x; gains = gains s.on false s.bytes b x t.1 t.2 }
      | false ↦ record { off = refl; same_size = refl; gains = λ i y l h. inl h }
    ] in
    rw w (record {
      refused_off = λ off. absurd (grind arith);
      refused_beyond = λ on l. absurd (omega (arith, length_blocks s.bytes));
      refused_buffer = λ on l n. absurd (n t.2);
      met = λ on l n. (refl, kept lands);
    })
