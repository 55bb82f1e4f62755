-- The premises of waiting are computed; the rest follows from part B.
use Prim.Native.Nat.{ℕ, zero, suc, ◌<◌}
use mathlib.Core.Path.{◌≡◌, refl}
use mathlib.Core.Bool.{false}
use mathlib.Core.List.{[], ◌∷◌}
use native.Mathlib.Omega.{arith}
use Rattle.image.specs.Image.{index}
use Rattle.image.specs.Cluster.{first_at}
use Rattle.image.proofs.ClusterLaws.{begins_one}
use Rattle.planner.specs.Setting.{setting_of}
use Rattle.planner.specs.Plan.{views_in}
use Rattle.planner.specs.Rules.{have}
use Rattle.protocol.specs.Call.{plan, named, budget_of}
use Rattle.protocol.specs.StepBytes.{steps_bytes}
use Rattle.demand3.specs.Interrupted.{whole}
use Rattle.demand3.specs.CallList.{CallList, finished, made}
use Rattle.example.specs.Undamaged.{payload_a, undamaged_three}
use Rattle.example_waiting.specs.Waiting.{of_three, three, waiting_cluster}
use Rattle.demand3.specs.Histories.{no_flights}
use Rattle.example_waiting.proofs.WaitingLaws.{waiting_computed}
use Rattle.demand3.proofs.ExampleDamage.{damaged_three}
use Rattle.demand3.proofs.PartB.{part_b_whole}
use Rattle.demand3.proofs.waiting_exhibit_claim.Goals as goal

no_copy_lem : (c : ℕ) → c < 3 → have (named three) (views_in (named three) waiting_cluster) 0 c ≡ false
no_copy_lem zero h = waiting_computed.no_copy_0
no_copy_lem (suc zero) h = waiting_computed.no_copy_1
no_copy_lem (suc (suc zero)) h = waiting_computed.no_copy_2
no_copy_lem (suc (suc (suc c))) h = absurd (omega arith)

played : CallList three (record { numbers = three; call = plan 1 3 } ∷ []) waiting_cluster waiting_cluster
unfolding budget_of steps_bytes
played = made (plan 1 3) waiting_computed.planned_waiting whole finished

first_slot : index (first_at of_three waiting_cluster 0) 0 ≡ 1
unfolding index
first_slot = rw (begins_one of_three waiting_cluster 0 refl)

pub returns : goal.returns
unfolding three setting_of
returns c =
    let part = part_b_whole three _ undamaged_three no_flights waiting_cluster waiting_cluster 1 2 payload_a damaged_three played in
    record {
      accepted = waiting_computed.go_waiting;
      damaged = damaged_three;
      faulty = waiting_computed.leader_faulty;
      no_copy = no_copy_lem;
      played = played;
      waits = part.waits 0 waiting_computed.go_waiting first_slot waiting_computed.leader_faulty no_copy_lem;
    }
