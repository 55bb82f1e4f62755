use mathlib.Core.Path.{sym}
use native.Mathlib.Omega.{arith}
use Rattle.call_sizes.proofs.SizeLaws.{few_slots, offset_small}
use Rattle.call_sizes.proofs.find_cluster_size.Goals as goal

pub image_at-requires : goal.image_at-requires
image_at-requires c =
    (few_slots _ _ (sym c.in_ok-vet_named.ensures), offset_small _ _ (sym c.in_ok-vet_named.ensures) _ (omega arith))
