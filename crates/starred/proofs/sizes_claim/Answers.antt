use Rattle.starred.proofs.ComputedLaws.{computed}
use Rattle.starred.proofs.sizes_claim.Goals as goal

pub returns : goal.returns
returns c =
    computed.1
