-- `plan`: the planner is called, and what it answers is handed out.
use native.Mathlib.Omega.{arith}
use lib.ListN.{length}
use Rattle.planner.specs.Setting.{setting_of}
use Rattle.planner.specs.Plan.{views_in, plan_bytes}
use Rattle.planner.specs.Answers.{rows_of}
use Rattle.call_plans.proofs.PlanLaws.{plan_answered, lent_rows, unless_refused_lem}
use Rattle.call_plans.proofs.plan.Goals as goal

pub returns : goal.returns
returns c =
    let a = c.args in
    let S = setting_of a.shape a.leading a.present in
    let W = views_in S a.cluster.now in
    let said = plan_answered a.shape a.leading a.present a.cluster.now (length a.plan.now) (length a.rows.now) (plan_bytes S W) a.plan.now (rows_of S W) a.rows.now a.status.now a.number.now c.plan_cluster.result c.plan_cluster.ensures c.hand_out.ensures in (
      lent_rows _ _ _ _ _ _ (length a.rows.now) said.0 (omega arith),
      said.1,
      unless_refused_lem _ _ _ _ said.2 (omega arith),
      said.3,
      said.4,
    )
