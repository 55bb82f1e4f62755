use Rattle.record.proofs.EntryLaws.{intact_for, intact_byte}
use Rattle.record.proofs.ChangedEntry.{changed_twice}
use Rattle.record.proofs.changed_payload_claim.Goals as goal

pub returns : goal.returns
returns c =
    record { changed = changed_twice; payload_byte = λ k e p b j h l. intact_byte k e p b (intact_for k b e p h) j l }
