use Rattle.report.proofs.LineLaws as law
use Rattle.print.proofs.report_refusal.Goals as goal

pub returns : goal.returns
returns c =
    law.refused_page c.empty_page-bytes.result _ c.empty_page-bytes.ensures c.write_refused.ensures
