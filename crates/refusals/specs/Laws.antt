-- What an answer that came through others tells.
use Rattle.std.specs.Prelude.{◌≡◌, ℕ, Ok, Err, Result, refl}
use Rattle.std.proofs.Common.{arith}
use Rattle.refusals.specs.declared.refusal.Refusal.{Refusal}
use Rattle.refusals.specs.Refused.{◌>>=◌, ◌>>◌}

-- what an accepted answer went on from was accepted
pub accepted_then :
    {X Y : Type 0} (r : Result X Refusal) (next : X → Result Y Refusal) (y : Y)
    → (r >>= next) ≡ Ok y → (x : X) × (r ≡ Ok x) × (next x ≡ Ok y)
accepted_then (Ok x) next y e = (x, refl, e)
accepted_then (Err f) next y e = absurd (let z : ◌≡◌ {A = ℕ} 0 1 = cc in omega arith)

pub accepted_after :
    {X Y : Type 0} (r : Result X Refusal) (next : Result Y Refusal) (y : Y)
    → (r >> next) ≡ Ok y → (x : X) × (r ≡ Ok x) × (next ≡ Ok y)
accepted_after (Ok x) next y e = (x, refl, e)
accepted_after (Err f) next y e = absurd (let z : ◌≡◌ {A = ℕ} 0 1 = cc in omega arith)
