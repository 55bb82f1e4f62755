use Rattle.std.proofs.Common.{arith, rules}
use Rattle.planner.proofs.RuleLaws.{marked_none, marked_more, marked_all}
use Rattle.decide_slots.proofs.mark_truncated.Goals as goal

pub loop-k-init : goal.loop-k-init
loop-k-init c = marked_none _ _ _ (search rules)

pub loop-k-preserved : goal.loop-k-preserved
loop-k-preserved c = marked_more _ _ _ c.loop-k.invariant (omega arith) (omega arith) (omega arith) c.truncated_byte.ensures

pub returns : goal.returns
returns c = marked_all _ _ _ c.loop-k.invariant (omega arith) (omega arith) c.loop-k-test.false
