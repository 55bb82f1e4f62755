-- `open_cluster` views the cluster, and plans its survey unless it is refused.
use mathlib.Core.Path.{sym, ◌∙◌}
use Rattle.planner.proofs.CallLaws.{leader_first, survey_asks}
use native.Mathlib.Omega.{arith}
use Rattle.decide.proofs.open_cluster.Goals as goal

pub returns-then-refusal-ne0 : goal.returns-then-refusal-ne0
returns-then-refusal-ne0 c =
    record { refusal = c.view_cluster-view.ensures.refusal; opened = λ e. absurd (c.if-refusal-ne0.true (omega (arith, e))) }

pub overflow_sub-leader : goal.overflow_sub-leader
overflow_sub-leader c =
    omega (arith, leader_first _ _ _ _ (sym c.view_cluster-view.ensures.refusal ∙ c.if-refusal-ne0.false))

pub plan_survey-plan-requires : goal.plan_survey-plan-requires
plan_survey-plan-requires c =
    survey_asks (c.view_cluster-view.ensures.survey c.if-refusal-ne0.false)

pub returns : goal.returns
returns c =
    let v = c.view_cluster-view.ensures in
    record { refusal = v.refusal; opened = λ e. record { survey_is = v.survey e; plan_is = c.plan_survey-plan.ensures _ _ (v.survey e) } }
