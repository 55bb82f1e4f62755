use Rattle.record.proofs.LayoutLaws as layout
use Rattle.record.proofs.HeaderLaws as header
use Rattle.record.proofs.RecordLaws as rec
use Rattle.record.proofs.EntryLaws as entry
use Rattle.record.proofs.round_trip_claim.Goals as goal

pub returns : goal.returns
returns c =
    record {
      header_back = header.read_proper;
      record_back = rec.read_good;
      entry_back = entry.read_intact;
      header_determined = layout.header_determined;
      record_determined = layout.record_determined;
      entry_determined = layout.entry_determined;
    }
