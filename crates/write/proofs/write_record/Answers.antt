use Rattle.record.proofs.WriteLaws as law
use Rattle.write.proofs.write_record.Goals as goal

pub returns : goal.returns
returns c =
    law.record_written _ _ _ _ _ _ c.requires c.put_number.ensures c.put_number-2.ensures c.put_seal.ensures
