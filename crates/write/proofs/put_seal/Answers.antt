use Rattle.record.proofs.WriteLaws as law
use Rattle.write.proofs.put_seal.Goals as goal

pub returns : goal.returns
returns c =
    law.seal_put _ _ _ c.requires.1 c.checksum_of-sum.ensures c.put_number.ensures
