use Rattle.record.proofs.WriteLaws as law
use Rattle.write.proofs.write_entry.Goals as goal

pub returns : goal.returns
returns c =
    law.entry_written c.args.s.now _ _ _ _ _ _ _ _ _ c.requires.0 c.requires.1 c.fill_bytes.ensures c.put_number.ensures c.put_number-2.ensures c.put_number-3.ensures c.put_bytes.ensures c.put_seal.ensures
