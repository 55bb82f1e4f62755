-- What is computed of the cluster that waits.
use Rattle.std.specs.Prelude.{◌≡◌, true, false}
use Rattle.record.specs.Meaning.{proper, improper, good, intact, broken}
use Rattle.image.specs.Cluster.{decode}
use Rattle.planner.specs.Plan.{views_in, cluster_refusal}
use Rattle.planner.specs.Rules.{is_faulty, have}
use Rattle.protocol.specs.Call.{plan, named, refusal_of}
use Rattle.example.specs.Undamaged.{payload_a, noise}
use Rattle.example.specs.Computed.{Means}
use Rattle.example_waiting.specs.Waiting.{of_three, three, scrawl, waiting_cluster}

pub record WaitingComputed : Type 0 where
  pub go_waiting : cluster_refusal of_three 1 7 waiting_cluster ≡ 0
  pub planned_waiting : refusal_of three (plan 1 3) waiting_cluster ≡ 0
  pub wait_0 : Means three waiting_cluster 0 0 (good 2) (broken noise)
  pub wait_1 : Means three waiting_cluster 1 0 (good 2) (broken noise)
  pub wait_2 : Means three waiting_cluster 2 0 (good 2) (intact 2 payload_a)
  pub wait_header_0 : (decode of_three waiting_cluster 0).header ≡ proper 1
  pub wait_header_1 : (decode of_three waiting_cluster 1).header ≡ proper 1
  pub wait_header_2 : (decode of_three waiting_cluster 2).header ≡ improper scrawl
  pub leader_faulty : is_faulty ((views_in (named three) waiting_cluster 0).condition 0) ≡ true
  pub no_copy_0 : have (named three) (views_in (named three) waiting_cluster) 0 0 ≡ false
  pub no_copy_1 : have (named three) (views_in (named three) waiting_cluster) 0 1 ≡ false
  pub no_copy_2 : have (named three) (views_in (named three) waiting_cluster) 0 2 ≡ false
