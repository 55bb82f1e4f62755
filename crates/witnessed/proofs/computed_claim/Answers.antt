-- Both are computed.
use Rattle.witnessed.proofs.ComputedLaws.{kept_computed, alone_computed}
use Rattle.witnessed.proofs.computed_claim.Goals as goal

pub returns : goal.returns
returns c =
    record { kept = kept_computed; only_witnesses = alone_computed }
