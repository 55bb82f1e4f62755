-- Those of edition 2.
use Rattle.example_later.proofs.LaterLaws.{later_computed}
use Rattle.example_later.proofs.later_claim.Goals as goal

pub returns : goal.returns
returns c =
    later_computed
