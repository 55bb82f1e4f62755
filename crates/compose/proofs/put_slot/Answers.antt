use Rattle.report.proofs.LineLaws as law
use Rattle.compose.proofs.put_slot.Goals as goal

pub returns : goal.returns
returns c =
    law.slot_lent _ _ _ _ _ c.write_slot.ensures
