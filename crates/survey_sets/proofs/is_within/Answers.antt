-- A bit at n or above is left after the shift.
use mathlib.Core.Path.{sym}
use Rattle.planner.specs.Sets.{is_within}
use Rattle.planner.proofs.ShapeLaws.{shifted, unshifted}
use native.Mathlib.Omega.{arith}
use Rattle.survey_sets.proofs.is_within.Goals as goal

pub returns-then-set-n-ne0 : goal.returns-then-set-n-ne0
unfolding is_within
returns-then-set-n-ne0 c =
    sym (shifted c.args.n c.args.set (λ z. omega arith))

pub returns : goal.returns
unfolding is_within
returns c =
    sym (unshifted c.args.n c.args.set (omega arith))
