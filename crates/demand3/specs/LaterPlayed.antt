-- The claim of demand 3 is about logs that begin later (02, Six): a cluster of edition 2 meets what it supposes, of two indices, and a list of
-- calls is played from it.
use Rattle.std.specs.Prelude.{ℕ, ◌<◌, ◌≡◌, [], ◌∷◌}
use Rattle.image.specs.Cluster.{decode_with}
use Rattle.protocol.specs.Call.{run, named, refusal_in}
use Rattle.protocol.specs.CallResult.{call_result, call_bytes, planning, ready, recovered}
use Rattle.example.specs.Undamaged.{payload_a, payload_b}
use Rattle.example_later.specs.Later.{of_later, later, undamaged_later, later_cluster, other_firsts, later_torn}
use Rattle.demand3.specs.Before.{firsts_of, DamagedCluster}
use Rattle.demand3.specs.CallList.{CallList}
use Rattle.demand3.specs.Claim.{Stands}
use Rattle.demand3.specs.Histories.{no_flights}

-- three replicas whose logs begin at 7, 7 and 8. A was committed at index 7 on the first two, B at index 8 on the first and the third: in one
-- log it is slot 2, in the other slot 1. The leader's A and the header of the third are damaged. A run is cut off in the middle of its
-- first store; the next one ends, and both stand on the readable replicas
pub record LaterExhibit : Type 0 where
  pub accepted : refusal_in later later_cluster ≡ 0
  pub damaged_a : DamagedCluster (named later) undamaged_later no_flights (decode_with of_later (firsts_of undamaged_later) later_cluster) 7 2 payload_a
  pub damaged_b : DamagedCluster (named later) undamaged_later no_flights (decode_with of_later (firsts_of undamaged_later) later_cluster) 8 2 payload_b
  pub played : CallList later (record { numbers = later; call = run 18 } ∷ []) later_cluster later_torn
  pub is_ready : call_result later (planning later) later_cluster ≡ ready 2
  pub last_run : call_result later (run 18) later_torn ≡ recovered 3
  pub mended_a : (c : ℕ) → c < 2 → Stands (named later) (call_bytes later (run 18) later_torn) c 7 2 payload_a
  pub mended_b : (c : ℕ) → c < 2 → Stands (named later) (call_bytes later (run 18) later_torn) c 8 2 payload_b
  -- with the third header whole two readable logs begin at different indices
  pub refused_firsts : refusal_in later other_firsts ≡ 21
