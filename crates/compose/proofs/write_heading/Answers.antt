use Rattle.report.proofs.LineLaws as law
use Rattle.compose.proofs.write_heading.Goals as goal

pub returns : goal.returns
returns c =
    law.head_written _ _ _ _ _ _ _ _ _ _ c.requires c.put_number.ensures c.put_number-2.ensures c.put_number-3.ensures c.put_number-4.ensures c.put_bytes.ensures
