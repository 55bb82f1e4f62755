-- The four stood as demand 3 supposes before their damage, and the damage is of the kind that it supposes.
use Prim.Native.Nat.{ℕ, zero, suc, ◌<◌}
use mathlib.Core.Path.{◌≡◌, refl}
use mathlib.Core.Bool.{Bool, true, false, cond}
use native.Mathlib.Omega.{arith}
use lib.Dec.{ltb}
use Rattle.search.specs.Search.{lowest, count, sum, one_if}
use Rattle.slices.specs.Same.{same}
use Rattle.record.specs.Meaning.{first_index}
use Rattle.image.specs.Cluster.{decode, decode_with}
use Rattle.image.proofs.ClusterLaws.{with_one_lem}
use Rattle.image.specs.View.{epoch_of, epoch_at, is_blank, log_length}
use Rattle.planner.specs.Setting.{setting_of}
use Rattle.planner.specs.Rules.{majority}
use Rattle.protocol.specs.Call.{named}
use Rattle.example.specs.Undamaged.{payload_a, image_with, empty_image, image_a, undamaged_four}
use Rattle.example_even.specs.Four.{of_four, four, even_cluster}
use Rattle.example_even.proofs.EvenLaws.{even_computed}
use Rattle.demand3.specs.Supposed.{History, held, committed}
use Rattle.demand3.specs.Before.{Before, spared, entry_damaged, header_spared, Damage, payload_in, payload_at, history_of, firsts_of, DamagedCluster}
use Rattle.demand3.proofs.CardsLaws.{damaged_cards}
use Rattle.demand3.specs.Histories.{no_flights}
use Rattle.demand3.proofs.ExampleDamage.{stale, noisy, stored_a, flying_a, one_slot, paid_from, Alike, agreed, alike_a, alike_empty}

-- a replica has A, or nothing
pub before_either : (c : ℕ) (t : Bool) → Before 1 (no_flights c) (cond t image_a empty_image)
unfolding no_flights log_length lowest is_blank image_a empty_image image_with
before_either c true = record { stored = λ k l e. stored_a k l; flying = λ k l e. flying_a k l }
before_either c false = record { stored = λ k l e. absurd (omega arith); flying = λ k l e. absurd (omega arith) }

pub alike_either : (c : ℕ) (t : Bool) → Alike 2 (paid_from 1) (history_of 1 (no_flights c) (cond t image_a empty_image))
unfolding no_flights
alike_either c true = alike_a (no_flights c).in_flight
alike_either c false = alike_empty 0 (no_flights c)

pub first_either : (t : Bool) → first_index (cond t image_a empty_image).header ≡ 1
unfolding image_a empty_image image_with first_index
first_either true = refl
first_either false = refl

damage_four : (c : ℕ) → c < 4 → Damage 1 (undamaged_four c) (decode of_four even_cluster c)
unfolding undamaged_four image_a empty_image image_with four
damage_four zero h = record {
  header = rw even_computed.even_header_0 header_spared;
  slots = one_slot (undamaged_four 0) (decode of_four even_cluster 0) (rw (even_computed.even_0.rec, even_computed.even_0.ent) (entry_damaged stale));
}
damage_four (suc zero) h = record {
  header = rw even_computed.even_header_1 header_spared;
  slots = one_slot (undamaged_four 1) (decode of_four even_cluster 1) (rw (even_computed.even_1.rec, even_computed.even_1.ent) (entry_damaged noisy));
}
damage_four (suc (suc zero)) h = record {
  header = rw even_computed.even_header_2 header_spared;
  slots = one_slot (undamaged_four 2) (decode of_four even_cluster 2) (rw (even_computed.even_2.rec, even_computed.even_2.ent) spared);
}
damage_four (suc (suc (suc zero))) h = record {
  header = rw even_computed.even_header_3 header_spared;
  slots = one_slot (undamaged_four 3) (decode of_four even_cluster 3) (rw (even_computed.even_3.rec, even_computed.even_3.ent) spared);
}
damage_four (suc (suc (suc (suc c)))) h = absurd (omega arith)

unfoldable histories_four : ℕ → History
histories_four c = history_of 1 (no_flights c) (undamaged_four c)

pub damaged_four : DamagedCluster (named four) undamaged_four no_flights (decode_with of_four (firsts_of undamaged_four) even_cluster) 1 2 payload_a
unfolding four setting_of majority histories_four count sum one_if committed held history_of undamaged_four image_a empty_image image_with no_flights epoch_at epoch_of log_length lowest is_blank payload_in payload_at payload_a same first_index
damaged_four = damaged_cards (named four) refl undamaged_four no_flights (decode_with of_four (firsts_of undamaged_four) even_cluster) 1 2 payload_a (record {
  before = λ c h. before_either c (ltb c 3);
  damage = λ c h. rw (with_one_lem of_four (firsts_of undamaged_four) even_cluster c refl (first_either (ltb c 3))) (damage_four c h);
  agree = agreed 4 2 (paid_from 1) histories_four (λ c h. alike_either c (ltb c 3));
  on_majority = omega arith;
  leader_held = refl;
})
