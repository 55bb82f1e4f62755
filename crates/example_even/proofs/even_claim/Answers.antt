-- The computed facts.
use Rattle.example_even.proofs.EvenLaws.{even_computed}
use Rattle.example_even.proofs.even_claim.Goals as goal

pub returns : goal.returns
returns c =
    even_computed
