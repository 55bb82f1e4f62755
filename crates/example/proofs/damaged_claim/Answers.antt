-- The computed facts.
use Rattle.example.proofs.ComputedLaws.{computed}
use Rattle.example.proofs.damaged_claim.Goals as goal

pub returns : goal.returns
returns c =
    computed
