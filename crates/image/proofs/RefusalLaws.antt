-- The laws of `refuse` and `else`.
use Prim.Native.Nat.{ℕ, zero, suc}
use mathlib.Core.Path.{◌≡◌, refl, ap}
use mathlib.Core.Bool.{Bool, true, false}
use native.Mathlib.Omega.{arith}
use Rattle.std.specs.Prelude.{Result, Ok, Err, IsErrAnd}
use Rattle.image.specs.declared.refusal.Refusal.{Refusal}
use Rattle.image.specs.Refusal.{refusal_number, refusal_of, refuse, ◌else◌}

pub refuse_on : (k : ℕ) {b : Bool} → b ≡ true → refuse k b ≡ k
unfolding refuse
refuse_on k e = rw e

pub refuse_off : (k : ℕ) {b : Bool} → b ≡ false → refuse k b ≡ 0
unfolding refuse
refuse_off k e = rw e

-- a refusal with a number above 0 that does not show does not apply
pub refuse_zero : (k : ℕ) (b : Bool) → refuse (suc k) b ≡ 0 → b ≡ false
unfolding refuse
refuse_zero k true e = absurd (omega (arith, e))
refuse_zero k false e = refl

pub else_next : {r : ℕ} (s : ℕ) → r ≡ 0 → (r else s) ≡ s
unfolding ◌else◌
else_next s e = rw e

pub else_first : (r s : ℕ) → (r ≡ 0 → ⊥) → (r else s) ≡ r
unfolding ◌else◌
else_first zero s h = absurd (h refl)
else_first (suc r) s h = refl

pub else_zero_l : (r s : ℕ) → (r else s) ≡ 0 → r ≡ 0
unfolding ◌else◌
else_zero_l zero s e = refl
else_zero_l (suc r) s e = e

pub else_zero_r : (r s : ℕ) → (r else s) ≡ 0 → s ≡ 0
unfolding ◌else◌
else_zero_r zero s e = e
else_zero_r (suc r) s e = absurd (omega (arith, e))

-- nothing refuses
pub else_zero : {r s : ℕ} → r ≡ 0 → s ≡ 0 → (r else s) ≡ 0
unfolding ◌else◌
else_zero p q = rw (p, q)

-- an error that `?` hands on is the same refusal
pub handed_on : {A : Type 0} (r : Result A Refusal) (e : Refusal) → IsErrAnd r (λ x. x ≡ e) → refusal_of r ≡ refusal_number e
handed_on (Ok v) e h = absurd h
handed_on (Err x) e h = ap refusal_number h
