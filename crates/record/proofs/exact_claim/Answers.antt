use Rattle.record.proofs.HeaderLaws as header
use Rattle.record.proofs.RecordLaws as rec
use Rattle.record.proofs.EntryLaws as entry
use Rattle.record.proofs.exact_claim.Goals as goal

pub returns : goal.returns
returns c =
    record {
      header_is = header.header_is;
      header_only = header.header_read;
      record_is = rec.record_is;
      record_only = rec.record_read;
      entry_is = entry.entry_is;
      entry_only = entry.entry_read;
    }
