use Rattle.record.proofs.WriteLaws as law
use Rattle.write.proofs.write_fresh_entry.Goals as goal

pub returns : goal.returns
returns c =
    law.fresh_written c.args.s.now _ c.requires c.fill_bytes.ensures
