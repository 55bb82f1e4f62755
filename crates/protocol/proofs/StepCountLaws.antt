-- Steps of bytes, one more step, and how many stores they make.
use Prim.Native.Nat.{ℕ, zero, suc, ◌≤◌}
use mathlib.Core.Path.{◌≡◌, refl, sym}
use mathlib.Core.Option.{Option, none, some}
use native.Mathlib.Omega.{arith}
use Rattle.slices.specs.Parts.{Bytes}
use Rattle.planner.specs.Setting.{Setting}
use Rattle.protocol.specs.Store.{Store}
use Rattle.protocol.specs.Recovery.{after}
use Rattle.protocol.specs.StepBytes.{after_store_bytes, next_in, steps_bytes, stores_bytes}

module _ (S : Setting) where
  pub steps_still : (j : ℕ) (b : Bytes) → next_in S b ≡ none → steps_bytes S j b ≡ b
  unfolding steps_bytes after
  steps_still zero b e = refl
  steps_still (suc j) b e = rw e

  pub steps_suc : (j : ℕ) (b : Bytes) → steps_bytes S (suc j) b ≡ steps_bytes S j (steps_bytes S 1 b)
  unfolding steps_bytes after
  steps_suc j b = go (next_in S b) refl
    where
      go : (o : Option Store) → next_in S b ≡ o → after o b (λ s. steps_bytes S j (after_store_bytes S.shape s b)) ≡ steps_bytes S j (after o b (λ s. after_store_bytes S.shape s b))
      go none e = sym (steps_still j b e)
      go (some s) e = refl

  -- nothing is outstanding after i steps: no run makes more stores
  pub few : (i j : ℕ) (b : Bytes) → next_in S (steps_bytes S i b) ≡ none → stores_bytes S j b ≤ i
  unfolding steps_bytes stores_bytes after
  few i zero b e = omega arith
  few zero (suc j) b e = rw e (omega arith)
  few (suc i) (suc j) b e = go (next_in S b) refl e (few i j)
    where
      go : (o : Option Store) → next_in S b ≡ o → next_in S (after o b (λ s. steps_bytes S i (after_store_bytes S.shape s b))) ≡ none
          → ((a : Bytes) → next_in S (steps_bytes S i a) ≡ none → stores_bytes S j a ≤ i)
          → after o zero (λ s. suc (stores_bytes S j (after_store_bytes S.shape s b))) ≤ suc i
      go none q x ih = omega arith
      go (some s) q x ih = omega (arith, ih (after_store_bytes S.shape s b) x)
