use mathlib.Core.Path.{sym}
use Rattle.call_sizes.proofs.SizeLaws.{few_slots}
use Rattle.call_sizes.proofs.find_image_size.Goals as goal

pub image_size-requires : goal.image_size-requires
image_size-requires c =
    few_slots _ _ (sym c.in_ok-vet_named.ensures)
