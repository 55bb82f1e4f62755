use Rattle.planner.proofs.OutcomeLaws.{answer_waiting, answer_ready}
use native.Mathlib.Omega.{arith}
use Rattle.plan_bytes.proofs.plan_answer.Goals as goal

pub returns-then-waiting-end : goal.returns-then-waiting-end
returns-then-waiting-end c =
    answer_waiting _ _ (omega arith)

pub returns : goal.returns
returns c =
    answer_ready _ _ (omega arith)
