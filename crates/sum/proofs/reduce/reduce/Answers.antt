-- Written out, so that another modulus fails here.
use native.Mathlib.Omega.{arith}
use Rattle.sum.proofs.reduce.reduce.Goals as goal

pub returns-then-y-lt65535 : goal.returns-then-y-lt65535
returns-then-y-lt65535 c =
    omega arith

pub returns-else-y-lt65535 : goal.returns-else-y-lt65535
returns-else-y-lt65535 c =
    omega arith
