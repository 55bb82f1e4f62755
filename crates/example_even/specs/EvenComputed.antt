-- What is computed of the cluster of four.
use Rattle.std.specs.Prelude.{◌≡◌}
use Rattle.std.proofs.Math.Option.{some}
use Rattle.record.specs.Layout.{fresh_entry}
use Rattle.record.specs.Meaning.{proper, good, blank, intact, broken}
use Rattle.image.specs.View.{read_refusal}
use Rattle.image.specs.Cluster.{image_part, first_at, decode}
use Rattle.planner.specs.Plan.{cluster_refusal}
use Rattle.protocol.specs.Store.{store_entry}
use Rattle.protocol.specs.StepBytes.{next_in}
use Rattle.protocol.specs.Call.{plan, run, named}
use Rattle.protocol.specs.CallResult.{ready, recovered, call_result}
use Rattle.example.specs.Undamaged.{payload_a, payload_c, noise}
use Rattle.example.specs.Computed.{Means}
use Rattle.example_even.specs.Four.{of_four, four, even_cluster, even_torn}

pub record EvenComputed : Type 0 where
  pub go_even : cluster_refusal of_four 1 15 even_cluster ≡ 0
  pub next_even : next_in (named four) even_cluster ≡ some (store_entry 0 0 2)
  pub even_begins : first_at of_four even_cluster 0 ≡ 1
  pub go_even_torn : cluster_refusal of_four 1 15 even_torn ≡ 0
  pub even_0 : Means four even_cluster 0 0 (good 2) (intact 1 payload_c)
  pub even_1 : Means four even_cluster 1 0 (good 2) (broken noise)
  pub even_2 : Means four even_cluster 2 0 (good 2) (intact 2 payload_a)
  pub even_3 : Means four even_cluster 3 0 blank (broken fresh_entry)
  pub even_header_0 : (decode of_four even_cluster 0).header ≡ proper 1
  pub even_header_1 : (decode of_four even_cluster 1).header ≡ proper 1
  pub even_header_2 : (decode of_four even_cluster 2).header ≡ proper 1
  pub even_header_3 : (decode of_four even_cluster 3).header ≡ proper 1
  pub even_ready : call_result four (plan 1 4) even_cluster ≡ ready 1
  pub even_read_0 : read_refusal of_four 1 (image_part of_four even_cluster 0) ≡ 0
  pub even_read_1 : read_refusal of_four 2 (image_part of_four even_cluster 1) ≡ 0
  pub even_read_2 : read_refusal of_four 3 (image_part of_four even_cluster 2) ≡ 0
  pub even_read_3 : read_refusal of_four 4 (image_part of_four even_cluster 3) ≡ 0
  pub even_run : call_result four (run 12) even_torn ≡ recovered 4
