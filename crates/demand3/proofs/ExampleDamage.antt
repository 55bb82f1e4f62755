-- The five and the three stood as demand 3 supposes before their damage, and the damage is of the kind that it supposes.
use Prim.Native.Nat.{ℕ, zero, suc, ◌-◌, ◌≤◌, ◌<◌}
use mathlib.Core.Path.{◌≡◌, refl, sym, ◌∙◌}
use mathlib.Core.Bool.{Bool, true, false, cond, true≢false, ◌||◌}
use native.Mathlib.Omega.{arith}
use lib.Dec.{eqb}
use Rattle.search.specs.Search.{lowest, count, sum, one_if}
use Rattle.slices.specs.Parts.{Bytes}
use Rattle.slices.specs.Same.{same}
use Rattle.record.specs.Meaning.{first_index, intact, broken}
use Rattle.image.specs.Image.{Image, index}
use Rattle.image.specs.Cluster.{decode, decode_with}
use Rattle.image.proofs.ClusterLaws.{with_one_lem}
use Rattle.image.specs.View.{condition, condition_at, epoch_of, epoch_at, is_blank, log_length}
use Rattle.image.specs.Verdict.{verdict_of, verdict_at}
use Rattle.planner.specs.Setting.{setting_of}
use Rattle.planner.specs.Rules.{majority}
use Rattle.demand3.specs.Supposed.{History, Within, held, committed, Supposed}
use Rattle.demand3.specs.Before.{Flight, FlightSlot, arrived, record_alone, Before, SlotDamage, spared, record_damaged, entry_damaged, unused_damaged, header_spared, header_refused, Damage, payload_in, payload_at, history_of, firsts_of, DamagedCluster}
use Rattle.protocol.specs.Call.{named}
use Rattle.example.specs.Undamaged.{payload_a, payload_b, payload_c, noise, image_with, leader_image, image_ab, empty_image, gap_image, image_a, undamaged_five, undamaged_three}
use Rattle.example.specs.Damaged.{of_five, five, damaged_cluster}
use Rattle.example_waiting.specs.Waiting.{of_three, three, waiting_cluster}
use Rattle.demand3.proofs.CardsLaws.{damaged_cards}
use Rattle.demand3.specs.Cards.{AgreeCards}
use Rattle.demand3.specs.Histories.{in_flight_five, written_to, flights_five, histories_five, no_flights}
use Rattle.demand3.proofs.BeforeLaws.{damaged_cluster_lem}
use Rattle.example.proofs.ComputedLaws.{computed}
use Rattle.example_waiting.proofs.WaitingLaws.{waiting_computed}

-- a stale entry, and noise
pub stale : (q : Bytes) → intact 1 payload_c ≡ intact 2 q → ⊥
stale q e = let z : ◌≡◌ {A = ℕ} 1 2 = cc in omega arith

pub noisy : (q : Bytes) → broken noise ≡ intact 2 q → ⊥
noisy q e = let z : ◌≡◌ {A = ℕ} 0 1 = cc in omega arith

-- ---- before the damage

stored_leader : (k : ℕ) → k < 3 → eqb k 2 ≡ false → verdict_at 3 leader_image k ≡ 1
unfolding leader_image image_with verdict_at verdict_of condition_at condition
stored_leader zero h e = refl
stored_leader (suc zero) h e = refl
stored_leader (suc (suc zero)) h e = absurd (true≢false e)
stored_leader (suc (suc (suc k))) h e = absurd (omega arith)

-- in flight or not, what arrived is what was written
flying_ab : (k : ℕ) → k < 2 → FlightSlot (written_to k) (image_ab.records k) (image_ab.entries k)
unfolding image_ab image_with written_to
flying_ab zero h = arrived
flying_ab (suc zero) h = arrived
flying_ab (suc (suc k)) h = absurd (omega arith)

flying_leader : (k : ℕ) → k < 3 → eqb k 2 ≡ true → FlightSlot (written_to k) (leader_image.records k) (leader_image.entries k)
unfolding leader_image image_with written_to
flying_leader zero h e = absurd (true≢false (sym e))
flying_leader (suc zero) h e = absurd (true≢false (sym e))
flying_leader (suc (suc zero)) h e = record_alone noisy
flying_leader (suc (suc (suc k))) h e = absurd (omega arith)

stored_ab : (k : ℕ) → k < 2 → verdict_at 3 image_ab k ≡ 1
unfolding image_ab image_with verdict_at verdict_of condition_at condition
stored_ab zero h = refl
stored_ab (suc zero) h = refl
stored_ab (suc (suc k)) h = absurd (omega arith)

stored_gap : (k : ℕ) → k < 1 → verdict_at 3 gap_image k ≡ 1
unfolding gap_image image_with verdict_at verdict_of condition_at condition
stored_gap zero h = refl
stored_gap (suc k) h = absurd (omega arith)

flying_gap : (k : ℕ) → k < 1 → (eqb k 1 || eqb k 2) ≡ true → ⊥
flying_gap zero h e = true≢false (sym e)
flying_gap (suc k) h e = absurd (omega arith)

before_five : (c : ℕ) → c < 5 → Before 3 (flights_five c) (undamaged_five c)
unfolding flights_five in_flight_five undamaged_five log_length lowest is_blank leader_image image_ab empty_image gap_image image_with
before_five zero h = record { stored = stored_leader; flying = flying_leader }
before_five (suc zero) h = record { stored = λ k l e. stored_ab k l; flying = λ k l e. flying_ab k l }
before_five (suc (suc zero)) h = record { stored = λ k l e. absurd (omega arith); flying = λ k l e. absurd (omega arith) }
before_five (suc (suc (suc zero))) h = record { stored = λ k l e. stored_ab k l; flying = λ k l e. flying_ab k l }
before_five (suc (suc (suc (suc zero)))) h = record { stored = λ k l e. stored_gap k l; flying = λ k l e. absurd (flying_gap k l e) }
before_five (suc (suc (suc (suc (suc c))))) h = absurd (omega arith)

pub stored_a : (k : ℕ) → k < 1 → verdict_at 1 image_a k ≡ 1
unfolding image_a image_with verdict_at verdict_of condition_at condition
stored_a zero l = refl
stored_a (suc k) l = absurd (omega arith)

pub flying_a : (k : ℕ) → k < 1 → FlightSlot (written_to k) (image_a.records k) (image_a.entries k)
unfolding image_a image_with written_to
flying_a zero h = arrived
flying_a (suc k) h = absurd (omega arith)

before_three : (c : ℕ) → c < 3 → Before 1 (no_flights c) (undamaged_three c)
unfolding no_flights undamaged_three log_length lowest is_blank image_a image_with
before_three c h = record { stored = λ k l e. stored_a k l; flying = λ k l e. flying_a k l }

-- ---- the damage

abbrev DamagedFive : ℕ → ℕ → Type 0
DamagedFive c k =
    SlotDamage ((undamaged_five c).records k) ((undamaged_five c).entries k) ((decode of_five damaged_cluster c).records k) ((decode of_five damaged_cluster c).entries k)

slots_first : (k : ℕ) → k < 3 → DamagedFive 0 k
unfolding undamaged_five leader_image image_with five
slots_first zero h = rw (computed.slot_0_0.rec, computed.slot_0_0.ent) (entry_damaged stale)
slots_first (suc zero) h = rw (computed.slot_0_1.rec, computed.slot_0_1.ent) record_damaged
slots_first (suc (suc zero)) h = rw (computed.slot_0_2.rec, computed.slot_0_2.ent) spared
slots_first (suc (suc (suc k))) h = absurd (omega arith)

slots_second : (k : ℕ) → k < 3 → DamagedFive 1 k
unfolding undamaged_five image_ab image_with five
slots_second zero h = rw (computed.slot_1_0.rec, computed.slot_1_0.ent) spared
slots_second (suc zero) h = rw (computed.slot_1_1.rec, computed.slot_1_1.ent) spared
slots_second (suc (suc zero)) h = rw (computed.slot_1_2.rec, computed.slot_1_2.ent) spared
slots_second (suc (suc (suc k))) h = absurd (omega arith)

slots_third : (k : ℕ) → k < 3 → DamagedFive 2 k
unfolding undamaged_five empty_image image_with five
slots_third zero h = rw (computed.slot_2_0.rec, computed.slot_2_0.ent) spared
slots_third (suc zero) h = rw (computed.slot_2_1.rec, computed.slot_2_1.ent) spared
slots_third (suc (suc zero)) h = rw (computed.slot_2_2.rec, computed.slot_2_2.ent) spared
slots_third (suc (suc (suc k))) h = absurd (omega arith)

slots_fourth : (k : ℕ) → k < 3 → DamagedFive 3 k
unfolding undamaged_five image_ab image_with five
slots_fourth zero h = rw (computed.slot_3_0.rec, computed.slot_3_0.ent) spared
slots_fourth (suc zero) h = rw (computed.slot_3_1.rec, computed.slot_3_1.ent) (entry_damaged noisy)
slots_fourth (suc (suc zero)) h = rw (computed.slot_3_2.rec, computed.slot_3_2.ent) unused_damaged
slots_fourth (suc (suc (suc k))) h = absurd (omega arith)

slots_fifth : (k : ℕ) → k < 3 → DamagedFive 4 k
unfolding undamaged_five gap_image image_with five
slots_fifth zero h = rw (computed.slot_4_0.rec, computed.slot_4_0.ent) spared
slots_fifth (suc zero) h = rw (computed.slot_4_1.rec, computed.slot_4_1.ent) spared
slots_fifth (suc (suc zero)) h = rw (computed.slot_4_2.rec, computed.slot_4_2.ent) spared
slots_fifth (suc (suc (suc k))) h = absurd (omega arith)

firsts_five : (c : ℕ) → firsts_of undamaged_five c ≡ 1
unfolding undamaged_five leader_image image_ab empty_image gap_image image_with first_index
firsts_five zero = refl
firsts_five (suc zero) = refl
firsts_five (suc (suc zero)) = refl
firsts_five (suc (suc (suc zero))) = refl
firsts_five (suc (suc (suc (suc c)))) = refl

firsts_three : (c : ℕ) → firsts_of undamaged_three c ≡ 1
unfolding undamaged_three image_a image_with first_index
firsts_three c = refl

damage_five : (c : ℕ) → c < 5 → Damage 3 (undamaged_five c) (decode of_five damaged_cluster c)
unfolding undamaged_five leader_image image_ab empty_image gap_image image_with
damage_five zero h = record { header = rw computed.header_0 header_spared; slots = slots_first }
damage_five (suc zero) h = record { header = rw computed.header_1 header_spared; slots = slots_second }
damage_five (suc (suc zero)) h = record { header = rw computed.header_2 header_spared; slots = slots_third }
damage_five (suc (suc (suc zero))) h = record { header = rw computed.header_3 header_spared; slots = slots_fourth }
damage_five (suc (suc (suc (suc zero)))) h = record { header = rw computed.header_4 header_spared; slots = slots_fifth }
damage_five (suc (suc (suc (suc (suc c))))) h = absurd (omega arith)

pub one_slot : (i j : Image) → SlotDamage (i.records 0) (i.entries 0) (j.records 0) (j.entries 0)
    → (k : ℕ) → k < 1 → SlotDamage (i.records k) (i.entries k) (j.records k) (j.entries k)
one_slot i j d zero h = d
one_slot i j d (suc k) h = absurd (omega arith)

damage_three : (c : ℕ) → c < 3 → Damage 1 (undamaged_three c) (decode of_three waiting_cluster c)
unfolding undamaged_three image_a image_with three
damage_three zero h = record {
  header = rw waiting_computed.wait_header_0 header_spared;
  slots = one_slot (undamaged_three 0) (decode of_three waiting_cluster 0) (rw (waiting_computed.wait_0.rec, waiting_computed.wait_0.ent) (entry_damaged noisy));
}
damage_three (suc zero) h = record {
  header = rw waiting_computed.wait_header_1 header_spared;
  slots = one_slot (undamaged_three 1) (decode of_three waiting_cluster 1) (rw (waiting_computed.wait_1.rec, waiting_computed.wait_1.ent) (entry_damaged noisy));
}
damage_three (suc (suc zero)) h = record {
  header = rw waiting_computed.wait_header_2 header_refused;
  slots = one_slot (undamaged_three 2) (decode of_three waiting_cluster 2) (rw (waiting_computed.wait_2.rec, waiting_computed.wait_2.ent) spared);
}
damage_three (suc (suc (suc c))) h = absurd (omega arith)

-- ---- the logs agree

unfoldable histories_three : ℕ → History
histories_three c = history_of 1 (no_flights c) (undamaged_three c)

-- every slot of a log has epoch e and the payload that was written to its index
pub record Alike (e : ℕ) (paid : ℕ → Bytes) (h : History) : Type 0 where
  pub epochs : (k : ℕ) → k < h.length → h.epoch (index h.first k) ≡ e
  pub payloads : (k : ℕ) → k < h.length → h.payload (index h.first k) ≡ paid (index h.first k)

-- so has every index of it
module _ (e : ℕ) (paid : ℕ → Bytes) (h : History) (a : Alike e paid h) (i j : ℕ) (w : Within i h) (low : h.first ≤ j) (up : j ≤ i) where
  at : index h.first (j - h.first) ≡ j
  unfolding index
  at = omega arith

  below : j - h.first < h.length
  below = omega (arith, w.high)

  epoch_at_lem : h.epoch j ≡ e
  epoch_at_lem = rw at at (a.epochs (j - h.first) below)

  payload_at_lem : h.payload j ≡ paid j
  payload_at_lem = rw at at (a.payloads (j - h.first) below)

pub agreed : (n e : ℕ) (paid : ℕ → Bytes) (H : ℕ → History) → ((c : ℕ) → c < n → Alike e paid (H c)) → AgreeCards n H
unfolding AgreeCards
agreed n e paid H alike c d i cn dn h g x = record {
  epochs = λ j a b u. epoch_at_lem e paid (H c) (alike c cn) i j h a u ∙ sym (epoch_at_lem e paid (H d) (alike d dn) i j g b u);
  payloads = λ _ j a b u. payload_at_lem e paid (H c) (alike c cn) i j h a u ∙ sym (payload_at_lem e paid (H d) (alike d dn) i j g (omega arith) u);
}

-- what epoch 2 wrote to each index of a log that begins at 1
abbrev pub paid_from : ℕ → ℕ → Bytes
paid_from first i = written_to (i - first)

alike_leader : Alike 2 (paid_from 1) (histories_five 0)
unfolding histories_five history_of flights_five in_flight_five undamaged_five leader_image image_with epoch_at epoch_of log_length lowest is_blank payload_in payload_at written_to index first_index
alike_leader = record { epochs = epochs; payloads = payloads }
  where
    epochs : (k : ℕ) → k < 3 → (histories_five 0).epoch (index 1 k) ≡ 2
    epochs zero h = refl
    epochs (suc zero) h = refl
    epochs (suc (suc zero)) h = refl
    epochs (suc (suc (suc k))) h = absurd (omega arith)

    payloads : (k : ℕ) → k < 3 → (histories_five 0).payload (index 1 k) ≡ paid_from 1 (index 1 k)
    payloads zero h = refl
    payloads (suc zero) h = refl
    payloads (suc (suc zero)) h = refl
    payloads (suc (suc (suc k))) h = absurd (omega arith)

either : (u : Bool) (p : Bytes) → cond u p p ≡ p
either true p = refl
either false p = refl

alike_ab : (t : ℕ → Bool) → Alike 2 (paid_from 1) (history_of 3 (record { in_flight = t; payload = written_to }) image_ab)
unfolding history_of image_ab image_with epoch_at epoch_of log_length lowest is_blank payload_in payload_at written_to index first_index
alike_ab t = record { epochs = epochs; payloads = payloads }
  where
    H : History
    H = history_of 3 (record { in_flight = t; payload = written_to }) image_ab

    epochs : (k : ℕ) → k < 2 → H.epoch (index 1 k) ≡ 2
    epochs zero h = refl
    epochs (suc zero) h = refl
    epochs (suc (suc k)) h = absurd (omega arith)

    payloads : (k : ℕ) → k < 2 → H.payload (index 1 k) ≡ paid_from 1 (index 1 k)
    payloads zero h = either (t 0) payload_a
    payloads (suc zero) h = either (t 1) payload_b
    payloads (suc (suc k)) h = absurd (omega arith)

pub alike_empty : (m : ℕ) (f : Flight) → Alike 2 (paid_from 1) (history_of (suc m) f empty_image)
unfolding history_of empty_image image_with log_length lowest is_blank
alike_empty m f = record { epochs = λ k h. absurd (omega arith); payloads = λ k h. absurd (omega arith) }

alike_gap : Alike 2 (paid_from 1) (histories_five 4)
unfolding histories_five history_of flights_five in_flight_five undamaged_five gap_image image_with epoch_at epoch_of log_length lowest is_blank payload_in payload_at written_to index first_index
alike_gap = record { epochs = epochs; payloads = payloads }
  where
    epochs : (k : ℕ) → k < 1 → (histories_five 4).epoch (index 1 k) ≡ 2
    epochs zero h = refl
    epochs (suc k) h = absurd (omega arith)

    payloads : (k : ℕ) → k < 1 → (histories_five 4).payload (index 1 k) ≡ paid_from 1 (index 1 k)
    payloads zero h = refl
    payloads (suc k) h = absurd (omega arith)

pub alike_a : (t : ℕ → Bool) → Alike 2 (paid_from 1) (history_of 1 (record { in_flight = t; payload = written_to }) image_a)
unfolding history_of image_a image_with epoch_at epoch_of log_length lowest is_blank payload_in payload_at written_to index first_index
alike_a t = record { epochs = epochs; payloads = payloads }
  where
    H : History
    H = history_of 1 (record { in_flight = t; payload = written_to }) image_a

    epochs : (k : ℕ) → k < 1 → H.epoch (index 1 k) ≡ 2
    epochs zero h = refl
    epochs (suc k) h = absurd (omega arith)

    payloads : (k : ℕ) → k < 1 → H.payload (index 1 k) ≡ paid_from 1 (index 1 k)
    payloads zero h = either (t 0) payload_a
    payloads (suc k) h = absurd (omega arith)

alike_five : (c : ℕ) → c < 5 → Alike 2 (paid_from 1) (histories_five c)
unfolding undamaged_five flights_five histories_five
alike_five zero h = alike_leader
alike_five (suc zero) h = alike_ab (in_flight_five 1)
alike_five (suc (suc zero)) h = alike_empty 2 (flights_five 2)
alike_five (suc (suc (suc zero))) h = alike_ab (in_flight_five 3)
alike_five (suc (suc (suc (suc zero)))) h = alike_gap
alike_five (suc (suc (suc (suc (suc c))))) h = absurd (omega arith)

alike_three : (c : ℕ) → c < 3 → Alike 2 (paid_from 1) (histories_three c)
unfolding undamaged_three no_flights histories_three
alike_three c h = alike_a (no_flights c).in_flight

-- ---- all of it

pub damaged_five : DamagedCluster (named five) undamaged_five flights_five (decode_with of_five (firsts_of undamaged_five) damaged_cluster) 1 2 payload_a
unfolding five setting_of majority histories_five count sum one_if committed held history_of undamaged_five leader_image image_ab empty_image gap_image image_with flights_five in_flight_five epoch_at epoch_of log_length lowest is_blank payload_in payload_at payload_a same first_index
damaged_five = damaged_cards (named five) refl undamaged_five flights_five (decode_with of_five (firsts_of undamaged_five) damaged_cluster) 1 2 payload_a (record {
  before = before_five;
  damage = λ c h. rw (with_one_lem of_five (firsts_of undamaged_five) damaged_cluster c refl (firsts_five c)) (damage_five c h);
  agree = agreed 5 2 (paid_from 1) histories_five alike_five;
  on_majority = omega arith;
  leader_held = refl;
})

pub supposed_five : Supposed (named five) (decode_with of_five (firsts_of undamaged_five) damaged_cluster) histories_five 1 2 payload_a
unfolding five setting_of histories_five
supposed_five = damaged_cluster_lem (named five) undamaged_five flights_five (decode_with of_five (firsts_of undamaged_five) damaged_cluster) 1 2 payload_a damaged_five

pub damaged_three : DamagedCluster (named three) undamaged_three no_flights (decode_with of_three (firsts_of undamaged_three) waiting_cluster) 1 2 payload_a
unfolding three setting_of majority histories_three count sum one_if committed held history_of undamaged_three image_a image_with no_flights epoch_at epoch_of log_length lowest is_blank payload_in payload_at payload_a same first_index
damaged_three = damaged_cards (named three) refl undamaged_three no_flights (decode_with of_three (firsts_of undamaged_three) waiting_cluster) 1 2 payload_a (record {
  before = before_three;
  damage = λ c h. rw (with_one_lem of_three (firsts_of undamaged_three) waiting_cluster c refl (firsts_three c)) (damage_three c h);
  agree = agreed 3 2 (paid_from 1) histories_three alike_three;
  on_majority = omega arith;
  leader_held = refl;
})
