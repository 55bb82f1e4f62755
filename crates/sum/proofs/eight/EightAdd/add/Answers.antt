use mathlib.Core.Path.{refl}
use Rattle.sum.specs.Rows.{added}
use Rattle.sum.proofs.eight.EightAdd.add.Goals as goal

pub returns : goal.returns
unfolding added
returns c =
    refl
