use Rattle.std.proofs.Common.{arith}
use Rattle.planner.specs.Rules.{majority}
use Rattle.planner.proofs.MajorityLaws.{ones_fit, truncates}
use Rattle.decide_answers.proofs.may_truncate.Goals as goal

pub overflow_sub-holders : goal.overflow_sub-holders
overflow_sub-holders c =
    omega (arith, ones_fit c.args.n c.lacking-set.result _ (c.lacking-set.ensures 0))

pub returns : goal.returns
unfolding majority
returns c =
    λ l. truncates c.args.n _ _ _ (omega arith) (c.lacking-set.ensures l)
