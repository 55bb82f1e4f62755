use mathlib.Core.Path.{refl}
use Rattle.sum.specs.Rows.{alone}
use Rattle.sum.proofs.eight.first_only.Goals as goal

pub returns : goal.returns
unfolding alone
returns c =
    refl
