-- The exhibit is computed.
use Prim.Native.Nat.{ℕ, zero, suc, ◌<◌}
use mathlib.Core.Path.{◌≡◌, refl}
use mathlib.Core.Bool.{false}
use native.Mathlib.Omega.{arith}
use Rattle.image.specs.Image.{index}
use Rattle.image.specs.Cluster.{first_at}
use Rattle.image.proofs.ClusterLaws.{begins_one}
use Rattle.planner.specs.Setting.{setting_of}
use Rattle.planner.specs.Plan.{views_in}
use Rattle.planner.specs.Rules.{rule, is_wait, end}
use Rattle.protocol.specs.Call.{named}
use Rattle.example.specs.Undamaged.{payload_a}
use Rattle.example.specs.Damaged.{of_five, five, damaged_cluster}
use Rattle.demand3.specs.Before.{history_of}
use Rattle.demand3.specs.Histories.{histories_five}
use Rattle.demand3.proofs.PartA.{part_a}
use Rattle.demand3.proofs.PartB.{part_b}
use Rattle.example.proofs.ComputedLaws.{computed}
use Rattle.example_visited.proofs.VisitedLaws.{visited_computed}
use Rattle.demand3.proofs.ExampleDamage.{damaged_five, supposed_five}
use Rattle.demand3.proofs.ExampleCalls.{played}
use Rattle.demand3.proofs.exhibit_claim.Goals as goal

-- below the end there is one other slot
others-go : (j : ℕ) → j < end (named five) (views_in (named five) damaged_cluster) → (j ≡ 0 → ⊥) → is_wait (rule (named five) (views_in (named five) damaged_cluster) j) ≡ false
others-go zero h e = absurd (e refl)
others-go (suc zero) h e = computed.other_slot
others-go (suc (suc j)) h e = absurd (omega (arith, computed.ends))

first_slot : index (first_at of_five damaged_cluster 0) 0 ≡ 1
unfolding index
first_slot = rw (begins_one of_five damaged_cluster 0 refl)

pub returns : goal.returns
unfolding five setting_of histories_five history_of
returns c =
    let part = part_b five histories_five 1 2 payload_a supposed_five played in
    record {
      accepted = computed.go_first;
      damaged = damaged_five;
      supposed = supposed_five;
      played = played;
      always = part_a five played;
      committed = part;
      faulty = computed.first_faulty;
      copy = computed.copy;
      others_go = others-go;
      is_ready = part.is_ready 1 0 computed.go_first first_slot computed.first_faulty (omega arith) computed.copy others-go;
      spent_run = visited_computed.spent_run;
      last_run = visited_computed.last_run;
      whole_run = visited_computed.whole_run;
    }
