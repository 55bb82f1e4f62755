-- `put_bytes` lends the middle part, and copies.
use mathlib.Core.Path.{refl}
use Rattle.slices.proofs.SpliceLaws.{part_put}
use Rattle.copy.proofs.put_bytes.Goals as goal

pub returns : goal.returns
returns c =
    part_put _ _ _ _ c.copy_bytes.ensures refl
