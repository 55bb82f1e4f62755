use native.Mathlib.Omega.{arith}
use Rattle.planner.proofs.LentLaws.{lent_first, lent_plan, lent_table, lent_none}
use Rattle.plan_bytes.proofs.lent_refusal.Goals as goal

pub returns-then-refusal-ne0 : goal.returns-then-refusal-ne0
returns-then-refusal-ne0 c =
    lent_first _ _ _ _ c.if-refusal-ne0.true

pub returns-then-bytes-shape : goal.returns-then-bytes-shape
returns-then-bytes-shape c =
    lent_plan _ _ _ _ c.if-refusal-ne0.false (λ e. omega arith)

pub returns-then-rows-shape : goal.returns-then-rows-shape
returns-then-rows-shape c =
    lent_table _ _ _ _ c.if-refusal-ne0.false (omega arith) (λ e. omega arith)

pub returns : goal.returns
returns c =
    lent_none _ _ _ _ c.if-refusal-ne0.false (omega arith) (omega arith)
