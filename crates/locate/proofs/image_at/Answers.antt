use Prim.Native.Nat.{ℕ, suc, ◌+◌, ◌≤◌, ◌<◌}
use mathlib.Core.Path.{◌≡◌, sym}
use native.Mathlib.Omega.{arith}
use native.Mathlib.Numerals.{add-one}
use Rattle.record.specs.declared.Shape.{Shape}
use Rattle.image.specs.Image.{image_size}
use Rattle.image.specs.Cluster.{image_at}
use Rattle.image.proofs.ClusterLaws.{image_none, image_next, image_fits}
use Rattle.locate.proofs.image_at.Goals as goal

-- one image more, of replica number r
module _ (Z : Shape) (d : ℕ) {r size at : ℕ} (own : r ≡ suc d) (is : size ≡ image_size Z r) (before : at ≡ image_at Z d) where
  within : (c : ℕ) → d < c → at + size ≤ image_at Z c
  within c h = rw (is, own, before) (image_fits Z c d h)

  more : at + size ≡ image_at Z (d + 1)
  more = rw (add-one, is, own, before) (sym (image_next Z d))

ended : (Z : Shape) {c d at : ℕ} → d ≡ c → at ≡ image_at Z d → at ≡ image_at Z c
ended Z q h = rw q at h

pub loop-d-init : goal.loop-d-init
loop-d-init c =
    sym (image_none _)

pub overflow_add-at : goal.overflow_add-at
overflow_add-at c =
    omega (arith, within _ _ (omega arith) c.image_size-at.ensures c.loop-d.invariant _ c.loop-d-test.true)

pub loop-d-preserved : goal.loop-d-preserved
loop-d-preserved c =
    more _ _ (omega arith) c.image_size-at.ensures c.loop-d.invariant

pub returns : goal.returns
returns c =
    ended _ (omega arith) c.loop-d.invariant
