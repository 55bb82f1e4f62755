-- The claim of demand 3 is about witnesses too (02, Seven): two clusters with witnesses meet what it supposes.
use Rattle.std.specs.Prelude.{ℕ, ◌<◌, ◌≡◌, true, false, [], ◌∷◌, eqb}
use Rattle.image.specs.Cluster.{decode_with}
use Rattle.planner.specs.Plan.{views_in}
use Rattle.planner.specs.Rules.{is_faulty, have}
use Rattle.protocol.specs.Call.{plan, run, named, refusal_in}
use Rattle.protocol.specs.CallResult.{call_result, call_bytes, planning, waiting, ready, recovered}
use Rattle.example.specs.Undamaged.{payload_a}
use Rattle.witnessed.specs.Kept.{of_kept, kept_away, kept_all, undamaged_kept, kept_cluster, forgotten_cluster}
use Rattle.witnessed.specs.Alone.{of_alone, alone, undamaged_alone, alone_cluster}
use Rattle.demand3.specs.Before.{Flight, firsts_of, DamagedCluster}
use Rattle.demand3.specs.CallList.{CallList}
use Rattle.demand3.specs.Claim.{Stands, Waits}
use Rattle.demand3.specs.Histories.{written_to, no_flights}

-- three cards and two witnesses: A was committed on the leader, on card 3 and on witness 4. While card 3 is away the plan waits; had the
-- witness not stored its record, A would be cut. With card 3 switched on a run ends, and A stands on the cards, and its record on the
-- witnesses
pub record WitnessExhibit : Type 0 where
  pub accepted_away : refusal_in kept_away kept_cluster ≡ 0
  pub damaged_away : DamagedCluster (named kept_away) undamaged_kept no_flights (decode_with of_kept (firsts_of undamaged_kept) kept_cluster) 1 2 payload_a
  pub waits : call_result kept_away (planning kept_away) kept_cluster ≡ waiting 1
  pub cut_without : call_result kept_away (planning kept_away) forgotten_cluster ≡ ready 0
  pub accepted : refusal_in kept_all kept_cluster ≡ 0
  pub damaged : DamagedCluster (named kept_all) undamaged_kept no_flights (decode_with of_kept (firsts_of undamaged_kept) kept_cluster) 1 2 payload_a
  pub is_ready : call_result kept_all (planning kept_all) kept_cluster ≡ ready 1
  pub whole_run : call_result kept_all (run 15) kept_cluster ≡ recovered 4
  pub mended : (c : ℕ) → c < 5 → Stands (named kept_all) (call_bytes kept_all (run 15) kept_cluster) c 1 2 payload_a

-- A in flight on the card
unfoldable pub flights_alone : ℕ → Flight
flights_alone c = record { in_flight = λ k. eqb c 0; payload = written_to }

-- one card and two witnesses: A was committed on the witnesses, and no card has its payload any more; so it waits
pub record WitnessMajority : Type 0 where
  pub accepted : refusal_in alone alone_cluster ≡ 0
  pub damaged : DamagedCluster (named alone) undamaged_alone flights_alone (decode_with of_alone (firsts_of undamaged_alone) alone_cluster) 1 2 payload_a
  pub faulty : is_faulty ((views_in (named alone) alone_cluster 0).condition 0) ≡ true
  pub no_copy : (c : ℕ) → c < 3 → have (named alone) (views_in (named alone) alone_cluster) 0 c ≡ false
  pub played : CallList alone (record { numbers = alone; call = plan 1 3 } ∷ []) alone_cluster alone_cluster
  pub waits : Waits alone alone_cluster alone_cluster
