-- The premises of waiting are computed; the rest follows from part B.
use Prim.Native.Nat.{ℕ, zero, suc, ◌<◌}
use mathlib.Core.Path.{◌≡◌, refl}
use mathlib.Core.Bool.{false}
use mathlib.Core.List.{[], ◌∷◌}
use native.Mathlib.Omega.{arith}
use Rattle.image.specs.Image.{index}
use Rattle.image.specs.Cluster.{first_at}
use Rattle.image.proofs.ClusterLaws.{begins_one}
use Rattle.planner.specs.Setting.{setting_of}
use Rattle.planner.specs.Plan.{views_in}
use Rattle.planner.specs.Rules.{have}
use Rattle.protocol.specs.Call.{plan, named, budget_of}
use Rattle.protocol.specs.StepBytes.{steps_bytes}
use Rattle.example.specs.Undamaged.{payload_a}
use Rattle.witnessed.specs.Alone.{of_alone, alone, undamaged_alone, alone_cluster}
use Rattle.witnessed.proofs.ComputedLaws.{alone_computed}
use Rattle.demand3.specs.Interrupted.{whole}
use Rattle.demand3.specs.CallList.{CallList, finished, made}
use Rattle.demand3.specs.WitnessPlayed.{flights_alone}
use Rattle.demand3.proofs.WitnessDamage.{damaged_alone}
use Rattle.demand3.proofs.PartB.{part_b_whole}
use Rattle.demand3.proofs.witness_majority_claim.Goals as goal

no_copy_lem : (c : ℕ) → c < 3 → have (named alone) (views_in (named alone) alone_cluster) 0 c ≡ false
no_copy_lem zero h = alone_computed.no_copy_0
no_copy_lem (suc zero) h = alone_computed.no_copy_1
no_copy_lem (suc (suc zero)) h = alone_computed.no_copy_2
no_copy_lem (suc (suc (suc c))) h = absurd (omega arith)

played : CallList alone (record { numbers = alone; call = plan 1 3 } ∷ []) alone_cluster alone_cluster
unfolding budget_of steps_bytes
played = made (plan 1 3) alone_computed.planned whole finished

first_slot : index (first_at of_alone alone_cluster 0) 0 ≡ 1
unfolding index
first_slot = rw (begins_one of_alone alone_cluster 0 refl)

pub returns : goal.returns
unfolding alone setting_of
returns c =
    let part = part_b_whole alone _ undamaged_alone flights_alone alone_cluster alone_cluster 1 2 payload_a damaged_alone played in
    record {
      accepted = alone_computed.accepted;
      damaged = damaged_alone;
      faulty = alone_computed.faulty;
      no_copy = no_copy_lem;
      played = played;
      waits = part.waits 0 alone_computed.accepted first_slot alone_computed.faulty no_copy_lem;
    }
