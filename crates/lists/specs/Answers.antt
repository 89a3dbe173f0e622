-- What an answer tells: it is one thing or the other, and holds one value.
use Rattle.std.specs.Prelude.{◌≡◌, ℕ, Bool, true, false, not, Ok, Err, Result, if◌then◌else◌, refl}
use Rattle.std.proofs.Common.{arith}

-- no answer is both
pub not_ok : {A B C : Type 0} (x : A) (e : B) → ◌≡◌ {A = Result A B} (Ok x) (Err e) → C
not_ok x e p = absurd (let z : ◌≡◌ {A = ℕ} 0 1 = cc in omega arith)

-- the same answer holds the same value
pub same_ok : {A B : Type 0} (x y : A) → ◌≡◌ {A = Result A B} (Ok x) (Ok y) → x ≡ y
same_ok x y p = cc

-- and refuses for the same reason
pub same_err : {A B : Type 0} (e f : B) → ◌≡◌ {A = Result A B} (Err e) (Err f) → e ≡ f
same_err e f p = cc

-- an accepted answer came through a test that it passed
pub passed :
    {A B : Type 0} (t : Bool) (r : Result A B) (e : B) (x : A)
    → (if not t then Err e else r) ≡ Ok x → (t ≡ true) × (r ≡ Ok x)
passed true r e x h = (refl, h)
passed false r e x h = absurd (let z : ◌≡◌ {A = ℕ} 0 1 = cc in omega arith)
