-- The claim's parts are laws.
use Rattle.planner.proofs.ClusterRefusalLaws.{cluster_first, plan_first, never_other}
use Rattle.planner.proofs.cluster_refusal_claim.Goals as goal

pub returns : goal.returns
returns c =
    record { recovering = cluster_first; planning = plan_first; edition_one = never_other }
