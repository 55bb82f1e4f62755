use Rattle.record.proofs.WriteLaws as law
use Rattle.write.proofs.write_blank_record.Goals as goal

pub returns : goal.returns
returns c =
    law.blank_written c.args.s.now _ c.requires c.fill_bytes.ensures
