use Rattle.report.proofs.ReportLaws as law
use Rattle.print.proofs.report_plan.Goals as goal

pub returns-then-waiting-end : goal.returns-then-waiting-end
returns-then-waiting-end c =
    λ S W s p. law.prints (law.waiting_lines S W s p _ c.if-waiting-end.true) c.report_slots.ensures

pub returns : goal.returns
returns c =
    λ S W s p. law.prints (law.ready_lines S W s p _ c.if-waiting-end.false) c.report_slots-2.ensures
