-- Written out, so that rows of another length fail here.
use native.Mathlib.Omega.{arith}
use Rattle.sum.proofs.eight.second_sum.Goals as goal

pub returns : goal.returns
returns c =
    omega arith
