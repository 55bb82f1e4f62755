-- The computed facts.
use Rattle.example_visited.proofs.VisitedLaws.{visited_computed}
use Rattle.example_visited.proofs.visited_claim.Goals as goal

pub returns : goal.returns
returns c =
    visited_computed
