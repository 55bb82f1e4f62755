-- What is computed on the way from the damaged cluster of five: the stores that are due, that no call is refused, and what the runs come to.
use Rattle.std.specs.Prelude.{◌≡◌}
use Rattle.std.proofs.Math.Option.{some}
use Rattle.image.specs.Cluster.{first_at}
use Rattle.planner.specs.Plan.{cluster_refusal}
use Rattle.protocol.specs.Store.{store_entry, store_record}
use Rattle.protocol.specs.StepBytes.{next_in, steps_bytes}
use Rattle.protocol.specs.Call.{run, named}
use Rattle.protocol.specs.CallResult.{recovered, spent, call_result}
use Rattle.example.specs.Damaged.{of_five, five, damaged_cluster}
use Rattle.example_visited.specs.Visited.{blanked_one, torn_one, fetched_one, two_more, last_stored}

pub record VisitedComputed : Type 0 where
  pub next_torn : next_in (named five) blanked_one ≡ some (store_entry 0 0 1)
  pub next_record : next_in (named five) fetched_one ≡ some (store_record 0 1 2)
  pub next_last : next_in (named five) (steps_bytes (named five) 3 two_more) ≡ some (store_entry 3 1 0)
  pub go_blanked : cluster_refusal of_five 1 31 blanked_one ≡ 0
  pub go_torn : cluster_refusal of_five 1 31 torn_one ≡ 0
  pub go_fetched : cluster_refusal of_five 1 31 fetched_one ≡ 0
  pub go_two : cluster_refusal of_five 1 31 two_more ≡ 0
  pub go_last : cluster_refusal of_five 1 31 last_stored ≡ 0
  pub begins : first_at of_five blanked_one 0 ≡ 1
  pub spent_run : call_result five (run 2) fetched_one ≡ spent 2
  pub last_run : call_result five (run 45) last_stored ≡ recovered 0
  pub whole_run : call_result five (run 45) damaged_cluster ≡ recovered 8
