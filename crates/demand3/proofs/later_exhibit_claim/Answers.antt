-- The premises of mending are computed; the rest follows from part B, once for each index.
use Prim.Native.Nat.{ℕ, zero, suc, ◌<◌}
use mathlib.Core.Path.{◌≡◌}
use mathlib.Core.Bool.{true}
use mathlib.Core.List.{[], ◌∷◌}
use native.Mathlib.Omega.{arith}
use lib.ListN.{length-replicate}
use Rattle.image.specs.Image.{index}
use Rattle.search.specs.Sets.{has}
use Rattle.planner.specs.Setting.{setting_of}
use Rattle.protocol.specs.Call.{run, budget_of, refusal_of}
use Rattle.protocol.specs.Store.{store_entry}
use Rattle.protocol.specs.StepBytes.{steps_bytes}
use Rattle.protocol.specs.CallResult.{is_spent}
use Rattle.example.specs.Undamaged.{payload_a, payload_b}
use Rattle.example_later.specs.Later.{later, undamaged_later, later_cluster, torn_later, later_torn}
use Rattle.example_later.proofs.LaterLaws.{later_computed}
use Rattle.demand3.specs.Interrupted.{torn, interrupted}
use Rattle.demand3.specs.CallList.{CallList, finished, made}
use Rattle.demand3.specs.Claim.{readable}
use Rattle.demand3.specs.Histories.{no_flights}
use Rattle.demand3.proofs.LaterDamage.{damaged_a_lem, damaged_b_lem}
use Rattle.demand3.proofs.PartB.{part_b_whole}
use Rattle.demand3.proofs.later_exhibit_claim.Goals as goal

played : CallList later (record { numbers = later; call = run 18 } ∷ []) later_cluster later_torn
unfolding later_torn budget_of refusal_of steps_bytes setting_of later
played =
    made (run 18) later_computed.accepted
    (interrupted 0 (store_entry 0 0 1) (omega arith) later_computed.next_store (torn {c = 0} {k = 0} torn_later (unfold torn_later in length-replicate {A = ℕ} 240 8) (unfold index in rw later_computed.begins later_computed.torn_broken)))
    finished

-- the first two are present and readable
readable-later : (c : ℕ) → c < 2 → readable later later_cluster c ≡ true
unfolding readable has later
readable-later zero h = rw later_computed.read_0
readable-later (suc zero) h = rw later_computed.read_1
readable-later (suc (suc c)) h = absurd (omega arith)

pub returns : goal.returns
unfolding later setting_of
returns c =
    let a = part_b_whole later _ undamaged_later no_flights later_cluster later_torn 7 2 payload_a damaged_a_lem played in
    let b = part_b_whole later _ undamaged_later no_flights later_cluster later_torn 8 2 payload_b damaged_b_lem played in
    record {
      accepted = later_computed.accepted;
      damaged_a = damaged_a_lem;
      damaged_b = damaged_b_lem;
      played = played;
      is_ready = later_computed.is_ready;
      last_run = later_computed.last_run;
      mended_a = λ c h. a.mended 2 18 later_computed.is_ready (unfold is_spent in rw later_computed.last_run) c (omega arith) (readable-later c h);
      mended_b = λ c h. b.mended 2 18 later_computed.is_ready (unfold is_spent in rw later_computed.last_run) c (omega arith) (readable-later c h);
      refused_firsts = later_computed.refused_21;
    }
