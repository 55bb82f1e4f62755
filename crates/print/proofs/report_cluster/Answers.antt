use mathlib.Core.Path.{sym, ◌∙◌}
use Rattle.planner.proofs.CallLaws.{survey_asks}
use Rattle.report.proofs.ReportLaws as law
use native.Mathlib.Omega.{arith}
use Rattle.print.proofs.report_cluster.Goals as goal

pub returns-then-refusal-ne0 : goal.returns-then-refusal-ne0
returns-then-refusal-ne0 c =
    law.prints (law.refused_report _ _ _ _ c.open_cluster-opening.ensures.refusal c.if-refusal-ne0.true) c.report_refusal.ensures

pub report_plan-requires : goal.report_plan-requires
report_plan-requires c =
    let a = survey_asks (c.open_cluster-opening.ensures.opened c.if-refusal-ne0.false).survey_is in
    (omega arith, a.2)

pub returns : goal.returns
returns c =
    let e = c.open_cluster-opening.ensures in
    let z = c.if-refusal-ne0.false in
    law.prints (law.planned_report _ _ _ _ (sym e.refusal ∙ z)) (c.report_plan.ensures _ _ (e.opened z).survey_is (e.opened z).plan_is)
