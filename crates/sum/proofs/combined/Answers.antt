-- Written out, so that swapped sums fail here.
use native.Mathlib.Omega.{arith}
use Rattle.sum.proofs.combined.Goals as goal

pub returns : goal.returns
returns c =
    omega arith
