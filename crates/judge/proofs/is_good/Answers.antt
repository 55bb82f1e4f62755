-- Behind the front of the writer's record the seal decides.
use native.Mathlib.Omega.{arith}
use Rattle.record.proofs.JudgeLaws.{and_first, and_next}
use Rattle.record.proofs.RecordJudgeLaws.{good_tests}
use Rattle.judge.proofs.is_good.Goals as goal

pub returns-then-is_front : goal.returns-then-is_front
returns-then-is_front c =
    and_next _ _ (good_tests _ _ _ (omega arith)) c.is_front.ensures c.if-is_front.true c.is_sealed.ensures

pub returns-else-is_front : goal.returns-else-is_front
returns-else-is_front c =
    and_first _ _ (good_tests _ _ _ (omega arith)) c.is_front.ensures c.if-is_front.false
