-- Records and entries lie in the cluster's bytes.
use Prim.Native.Nat.{ℕ, suc, ◌+◌, ◌≤◌, ◌<◌}
use mathlib.Core.Path.{◌≡◌}
use mathlib.Core.Bool.{false}
use native.Mathlib.Omega.{arith}
use Rattle.record.specs.declared.Shape.{Shape}
use Rattle.record.specs.Layout.{is_witness, record_size, entry_size}
use Rattle.image.specs.Image.{record_at, entry_at}
use Rattle.image.specs.Cluster.{image_at}
use Rattle.image.proofs.DecodeLaws.{record_fits, entry_fits}
use Rattle.image.specs.Fits.{ImageFits}

module _ (Z : Shape) (c k size : ℕ) (h : k < Z.m) (f : ImageFits Z size c) where
  pub record_room : image_at Z c + record_at Z k + record_size ≤ size
  record_room = omega (arith, record_fits Z (suc c) k h)

  -- a card's
  pub entry_room : is_witness Z (suc c) ≡ false → image_at Z c + entry_at Z k + entry_size ≤ size
  entry_room card = omega (arith, entry_fits Z (suc c) k card h)
