-- The claim's parts are laws.
use Rattle.image.proofs.ReadingLaws.{reads}
use Rattle.image.proofs.WitnessLaws.{witness_reads}
use Rattle.image.proofs.reading_claim.Goals as goal

pub returns : goal.returns
returns c =
    record { reads = reads; witness_reads = witness_reads }
