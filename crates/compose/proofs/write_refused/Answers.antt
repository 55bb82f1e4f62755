use Rattle.report.proofs.LineLaws as law
use Rattle.compose.proofs.write_refused.Goals as goal

pub returns : goal.returns
returns c =
    law.refused_written _ _ _ _ _ c.requires c.put_bytes.ensures c.put_number.ensures c.put_bytes-2.ensures
