use mathlib.Core.Path.{sym}
use native.Mathlib.Omega.{arith}
use Rattle.call_sizes.proofs.SizeLaws.{few_slots, replica_from, replica_to, offset_small}
use Rattle.call_sizes.proofs.find_image.Goals as goal

pub overflow_sub-placed : goal.overflow_sub-placed
overflow_sub-placed c =
    omega (arith, replica_from _ _ (sym c.in_ok-vet_named.ensures))

pub image_at-requires : goal.image_at-requires
image_at-requires c =
    let none = sym c.in_ok-vet_named.ensures in
    (few_slots _ _ none, offset_small _ _ none _ (omega (arith, replica_to _ _ none)))
