-- The computed facts.
use Rattle.example_waiting.proofs.WaitingLaws.{waiting_computed}
use Rattle.example_waiting.proofs.waiting_claim.Goals as goal

pub returns : goal.returns
returns c =
    waiting_computed
