use Rattle.starred.proofs.ComputedLaws.{computed}
use Rattle.starred.proofs.stale_claim.Goals as goal

pub returns : goal.returns
returns c =
    computed.3
