-- The premises of mending are computed; the rest follows from part B.
use Prim.Native.Nat.{ℕ, zero, suc, ◌<◌}
use mathlib.Core.Path.{◌≡◌}
use mathlib.Core.Bool.{true}
use mathlib.Core.List.{[], ◌∷◌}
use native.Mathlib.Omega.{arith}
use lib.ListN.{length-replicate}
use Rattle.image.specs.Image.{index}
use Rattle.search.specs.Sets.{has}
use Rattle.planner.specs.Setting.{setting_of}
use Rattle.protocol.specs.Call.{run, budget_of, refusal_of}
use Rattle.protocol.specs.Store.{store_entry}
use Rattle.protocol.specs.StepBytes.{steps_bytes}
use Rattle.protocol.specs.CallResult.{is_spent}
use Rattle.example.specs.Undamaged.{payload_a, noise, undamaged_four}
use Rattle.example_even.specs.Four.{four, even_cluster, even_torn}
use Rattle.example.proofs.ComputedLaws.{computed}
use Rattle.example_even.proofs.EvenLaws.{even_computed}
use Rattle.demand3.specs.Interrupted.{torn, interrupted}
use Rattle.demand3.specs.CallList.{CallList, finished, made}
use Rattle.demand3.specs.Claim.{readable}
use Rattle.demand3.specs.Histories.{no_flights}
use Rattle.demand3.proofs.EvenDamage.{damaged_four}
use Rattle.demand3.proofs.PartB.{part_b_whole}
use Rattle.demand3.proofs.even_exhibit_claim.Goals as goal

played : CallList four (record { numbers = four; call = run 12 } ∷ []) even_cluster even_torn
unfolding even_torn budget_of refusal_of steps_bytes setting_of four
played =
    made (run 12) even_computed.go_even
    (interrupted 0 (store_entry 0 0 2) (omega arith) even_computed.next_even (torn {c = 0} {k = 0} noise (unfold noise in length-replicate {A = ℕ} 240 9) (unfold index in rw even_computed.even_begins computed.noise_broken)))
    finished

-- all four are present and readable
readable-four : (c : ℕ) → c < 4 → readable four even_cluster c ≡ true
unfolding readable has four
readable-four zero h = rw even_computed.even_read_0
readable-four (suc zero) h = rw even_computed.even_read_1
readable-four (suc (suc zero)) h = rw even_computed.even_read_2
readable-four (suc (suc (suc zero))) h = rw even_computed.even_read_3
readable-four (suc (suc (suc (suc c)))) h = absurd (omega arith)

pub returns : goal.returns
unfolding four setting_of
returns c =
    let part = part_b_whole four _ undamaged_four no_flights even_cluster even_torn 1 2 payload_a damaged_four played in
    record {
      accepted = even_computed.go_even;
      damaged = damaged_four;
      played = played;
      is_ready = even_computed.even_ready;
      last_run = even_computed.even_run;
      mended = λ c h. part.mended 1 12 even_computed.even_ready (unfold is_spent in rw even_computed.even_run) c h (readable-four c h);
    }
