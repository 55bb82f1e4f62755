-- The claim of demand 3 is about something: all that it supposes holds of a damaged cluster, and a list of calls among power failures is played from it.
use Rattle.std.specs.Prelude.{ℕ, ◌<◌, ◌≡◌, true, false, List, [], ◌∷◌}
use Rattle.image.specs.Cluster.{decode_with}
use Rattle.planner.specs.Plan.{views_in}
use Rattle.planner.specs.Rules.{is_faulty, have, rule, is_wait, end}
use Rattle.demand3.specs.Supposed.{Supposed}
use Rattle.demand3.specs.Before.{firsts_of, DamagedCluster}
use Rattle.protocol.specs.Call.{Call, plan, step, run, named, refusal_in}
use Rattle.demand3.specs.CallList.{Request, CallList}
use Rattle.demand3.specs.Claim.{Stands, PartA, PartB, Waits}
use Rattle.protocol.specs.CallResult.{call_result, call_bytes, planning, ready, recovered, spent}
use Rattle.example.specs.Undamaged.{payload_a, undamaged_five, undamaged_three, undamaged_four}
use Rattle.example.specs.Damaged.{of_five, five, damaged_cluster}
use Rattle.example_waiting.specs.Waiting.{of_three, three, waiting_cluster}
use Rattle.example_even.specs.Four.{of_four, four, even_cluster, even_torn}
use Rattle.example_visited.specs.Visited.{fetched_one, last_stored, last_cluster}
use Rattle.demand3.specs.Histories.{flights_five, histories_five, no_flights}

-- a call with the numbers of the five
abbrev pub asked : Call → Request
asked q = record { numbers = five; call = q }

-- planned; refused by 1, 2, 3, 11, 12 and 13; a run cut off before its first store, a step after its store, a step during one; a whole
-- step; a step whose record stays old; a run that is spent; a run cut off after its last store; a whole run
unfoldable pub calls : List Request
calls =
    asked (plan 3 5)
    ∷ record { numbers = record { shape = record { n = 5; m = 0; edition = 1; witnesses = 0 }; leader = 1; present = 31 }; call = run 9 }
    ∷ record { numbers = record { shape = record { n = 8; m = 3; edition = 1; witnesses = 0 }; leader = 1; present = 31 }; call = step }
    ∷ record { numbers = record { shape = record { n = 5; m = 2; edition = 1; witnesses = 0 }; leader = 1; present = 31 }; call = step }
    ∷ record { numbers = record { shape = of_five; leader = 1; present = 63 }; call = step }
    ∷ record { numbers = record { shape = of_five; leader = 5; present = 31 }; call = step }
    ∷ asked (plan 2 5)
    ∷ asked (run 100)
    ∷ asked step
    ∷ asked step
    ∷ asked step
    ∷ asked step
    ∷ asked (run 2)
    ∷ asked (run 45)
    ∷ asked (run 45)
    ∷ []

-- five replicas: A was committed on four of them, C was in flight, and the damage left the cluster that the list is played from
pub record Exhibit : Type 0 where
  pub accepted : refusal_in five damaged_cluster ≡ 0
  pub damaged : DamagedCluster (named five) undamaged_five flights_five (decode_with of_five (firsts_of undamaged_five) damaged_cluster) 1 2 payload_a
  pub supposed : Supposed (named five) (decode_with of_five (firsts_of undamaged_five) damaged_cluster) histories_five 1 2 payload_a
  pub played : CallList five calls damaged_cluster last_cluster
  -- so what the claim concludes holds of it
  pub always : PartA five damaged_cluster last_cluster
  pub committed : PartB five damaged_cluster histories_five 1 2 payload_a last_cluster
  -- and what it says of a copy within reach: A is damaged at the leader, replica 2 has it, and no other slot that stays waits
  pub faulty : is_faulty ((views_in (named five) damaged_cluster 0).condition 0) ≡ true
  pub copy : have (named five) (views_in (named five) damaged_cluster) 0 1 ≡ true
  pub others_go : (j : ℕ) → j < end (named five) (views_in (named five) damaged_cluster) → (j ≡ 0 → ⊥)
      → is_wait (rule (named five) (views_in (named five) damaged_cluster) j) ≡ false
  pub is_ready : call_result five (planning five) damaged_cluster ≡ ready (end (named five) (views_in (named five) damaged_cluster))
  -- the run of two is spent, the last one finds nothing to do, and from the damaged cluster a run makes eight stores
  pub spent_run : call_result five (run 2) fetched_one ≡ spent 2
  pub last_run : call_result five (run 45) last_stored ≡ recovered 0
  pub whole_run : call_result five (run 45) damaged_cluster ≡ recovered 8

-- three replicas: A was committed on all, and no copy is within reach; so it waits
pub record WaitingExhibit : Type 0 where
  pub accepted : refusal_in three waiting_cluster ≡ 0
  pub damaged : DamagedCluster (named three) undamaged_three no_flights (decode_with of_three (firsts_of undamaged_three) waiting_cluster) 1 2 payload_a
  pub faulty : is_faulty ((views_in (named three) waiting_cluster 0).condition 0) ≡ true
  pub no_copy : (c : ℕ) → c < 3 → have (named three) (views_in (named three) waiting_cluster) 0 c ≡ false
  pub played : CallList three (record { numbers = three; call = plan 1 3 } ∷ []) waiting_cluster waiting_cluster
  pub waits : Waits three waiting_cluster waiting_cluster

-- four replicas: A was committed on three of them and no more, and is damaged on two. A run is cut off in the middle of its first store;
-- the next one ends, and A stands on all
pub record EvenExhibit : Type 0 where
  pub accepted : refusal_in four even_cluster ≡ 0
  pub damaged : DamagedCluster (named four) undamaged_four no_flights (decode_with of_four (firsts_of undamaged_four) even_cluster) 1 2 payload_a
  pub played : CallList four (record { numbers = four; call = run 12 } ∷ []) even_cluster even_torn
  pub is_ready : call_result four (planning four) even_cluster ≡ ready 1
  pub last_run : call_result four (run 12) even_torn ≡ recovered 4
  pub mended : (c : ℕ) → c < 4 → Stands (named four) (call_bytes four (run 12) even_torn) c 1 2 payload_a
