-- The three of edition 2 stood as demand 3 supposes before their damage, and the damage is of the kind that it supposes.
use Prim.Native.Nat.{ℕ, zero, suc, ◌<◌}
use mathlib.Core.Path.{◌≡◌, refl, sym}
use mathlib.Core.Bool.{true≢false}
use native.Mathlib.Omega.{arith}
use Rattle.search.specs.Search.{lowest, count, sum, one_if}
use Rattle.slices.specs.Parts.{Bytes}
use Rattle.slices.specs.Same.{same}
use Rattle.record.specs.Meaning.{first_index, Record, Entry}
use Rattle.image.specs.Image.{Image, index}
use Rattle.image.specs.Cluster.{Cluster, decode_with}
use Rattle.image.specs.View.{condition, condition_at, epoch_of, epoch_at, is_blank, log_length}
use Rattle.image.specs.Verdict.{verdict_of, verdict_at}
use Rattle.image.proofs.ClusterLaws.{with_header}
use Rattle.planner.specs.Setting.{setting_of}
use Rattle.planner.specs.Rules.{majority}
use Rattle.protocol.specs.Call.{Numbers, named}
use Rattle.example.specs.Undamaged.{payload_a, payload_b}
use Rattle.example_later.specs.Later.{of_later, later, image_from, undamaged_later, later_cluster}
use Rattle.example_later.specs.LaterComputed.{MeansUnder}
use Rattle.example_later.proofs.LaterLaws.{later_computed}
use Rattle.demand3.specs.Supposed.{History, held, committed}
use Rattle.demand3.specs.Before.{Before, SlotDamage, spared, entry_damaged, header_spared, header_refused, Damage, payload_in, payload_at, history_of, firsts_of, DamagedCluster}
use Rattle.demand3.proofs.CardsLaws.{damaged_cards}
use Rattle.demand3.specs.Histories.{written_to, no_flights}
use Rattle.demand3.proofs.ExampleDamage.{noisy, paid_from, Alike, agreed}

-- what a slot means under the index at which its log began
module _ (N : Numbers) (b : Bytes) (firsts : ℕ → ℕ) (c k first : ℕ) (r : Record) (x : Entry) (e : firsts c ≡ first) (m : MeansUnder N first b c k r x) where
  pub rec_under : (decode_with N.shape firsts b c).records k ≡ r
  unfolding decode_with
  rec_under = rw e m.rec

  pub ent_under : (decode_with N.shape firsts b c).entries k ≡ x
  unfolding decode_with
  ent_under = rw e m.ent

-- ---- before the damage

stored_later : (c k : ℕ) → k < log_length 2 (undamaged_later c) → verdict_at 2 (undamaged_later c) k ≡ 1
unfolding undamaged_later image_from log_length lowest is_blank verdict_at verdict_of condition_at condition
stored_later zero zero h = refl
stored_later zero (suc zero) h = refl
stored_later zero (suc (suc k)) h = absurd (omega arith)
stored_later (suc zero) zero h = refl
stored_later (suc zero) (suc k) h = absurd (omega arith)
stored_later (suc (suc c)) zero h = refl
stored_later (suc (suc c)) (suc k) h = absurd (omega arith)

before_later : (c : ℕ) → c < 3 → Before 2 (no_flights c) (undamaged_later c)
unfolding no_flights
before_later c h = record { stored = λ k l e. stored_later c k l; flying = λ k l e. absurd (true≢false (sym e)) }

-- ---- the damage

unfoldable damaged : Cluster
damaged = decode_with of_later (firsts_of undamaged_later) later_cluster

two_slots : (i j : Image) → SlotDamage (i.records 0) (i.entries 0) (j.records 0) (j.entries 0) → SlotDamage (i.records 1) (i.entries 1) (j.records 1) (j.entries 1)
    → (k : ℕ) → k < 2 → SlotDamage (i.records k) (i.entries k) (j.records k) (j.entries k)
two_slots i j d e zero h = d
two_slots i j d e (suc zero) h = e
two_slots i j d e (suc (suc k)) h = absurd (omega arith)

-- slot k of replica c
abbrev Slot : ℕ → ℕ → Type 0
Slot c k = SlotDamage ((undamaged_later c).records k) ((undamaged_later c).entries k) ((damaged c).records k) ((damaged c).entries k)

module _ (c k first : ℕ) (r : Record) (x : Entry) (e : firsts_of undamaged_later c ≡ first) (m : MeansUnder later first later_cluster c k r x) where
  slot_is : SlotDamage ((undamaged_later c).records k) ((undamaged_later c).entries k) r x → Slot c k
  unfolding damaged later
  slot_is d = rw (rec_under later later_cluster (firsts_of undamaged_later) c k first r x e m, ent_under later later_cluster (firsts_of undamaged_later) c k first r x e m) d

damage_later : (c : ℕ) → c < 3 → Damage 2 (undamaged_later c) (damaged c)
unfolding undamaged_later image_from first_index damaged
damage_later zero h = record {
  header = rw (with_header of_later (firsts_of undamaged_later) later_cluster 0, later_computed.headers_0) header_spared;
  slots = two_slots (undamaged_later 0) (damaged 0) (slot_is 0 0 7 _ _ refl later_computed.slot_0_0 (entry_damaged noisy)) (slot_is 0 1 7 _ _ refl later_computed.slot_0_1 spared);
}
damage_later (suc zero) h = record {
  header = rw (with_header of_later (firsts_of undamaged_later) later_cluster 1, later_computed.headers_1) header_spared;
  slots = two_slots (undamaged_later 1) (damaged 1) (slot_is 1 0 7 _ _ refl later_computed.slot_1_0 spared) (slot_is 1 1 7 _ _ refl later_computed.slot_1_1 spared);
}
damage_later (suc (suc zero)) h = record {
  header = rw (with_header of_later (firsts_of undamaged_later) later_cluster 2, later_computed.headers_2) header_refused;
  slots = two_slots (undamaged_later 2) (damaged 2) (slot_is 2 0 8 _ _ refl later_computed.slot_2_0 spared) (slot_is 2 1 8 _ _ refl later_computed.slot_2_1 spared);
}
damage_later (suc (suc (suc c))) h = absurd (omega arith)

-- ---- the logs agree

unfoldable histories_later : ℕ → History
histories_later c = history_of 2 (no_flights c) (undamaged_later c)

alike_later : (c : ℕ) → c < 3 → Alike 2 (paid_from 7) (histories_later c)
unfolding histories_later history_of no_flights undamaged_later image_from epoch_at epoch_of log_length lowest is_blank payload_in payload_at written_to index first_index
alike_later zero h = record { epochs = epochs; payloads = payloads }
  where
    epochs : (k : ℕ) → k < 2 → (histories_later 0).epoch (index 7 k) ≡ 2
    epochs zero l = refl
    epochs (suc zero) l = refl
    epochs (suc (suc k)) l = absurd (omega arith)

    payloads : (k : ℕ) → k < 2 → (histories_later 0).payload (index 7 k) ≡ paid_from 7 (index 7 k)
    payloads zero l = refl
    payloads (suc zero) l = refl
    payloads (suc (suc k)) l = absurd (omega arith)
alike_later (suc zero) h = record { epochs = epochs; payloads = payloads }
  where
    epochs : (k : ℕ) → k < 1 → (histories_later 1).epoch (index 7 k) ≡ 2
    epochs zero l = refl
    epochs (suc k) l = absurd (omega arith)

    payloads : (k : ℕ) → k < 1 → (histories_later 1).payload (index 7 k) ≡ paid_from 7 (index 7 k)
    payloads zero l = refl
    payloads (suc k) l = absurd (omega arith)
alike_later (suc (suc c)) h = record { epochs = epochs; payloads = payloads }
  where
    epochs : (k : ℕ) → k < 1 → (histories_later 2).epoch (index 8 k) ≡ 2
    epochs zero l = refl
    epochs (suc k) l = absurd (omega arith)

    payloads : (k : ℕ) → k < 1 → (histories_later 2).payload (index 8 k) ≡ paid_from 7 (index 8 k)
    payloads zero l = refl
    payloads (suc k) l = absurd (omega arith)

-- ---- all of it, at both indices

pub damaged_a_lem : DamagedCluster (named later) undamaged_later no_flights (decode_with of_later (firsts_of undamaged_later) later_cluster) 7 2 payload_a
unfolding later setting_of majority histories_later count sum one_if committed held history_of undamaged_later image_from no_flights epoch_at epoch_of log_length lowest is_blank payload_in payload_at payload_a payload_b same first_index damaged
damaged_a_lem = damaged_cards (named later) refl undamaged_later no_flights (decode_with of_later (firsts_of undamaged_later) later_cluster) 7 2 payload_a (record {
  before = before_later;
  damage = damage_later;
  agree = agreed 3 2 (paid_from 7) histories_later alike_later;
  on_majority = omega arith;
  leader_held = refl;
})

pub damaged_b_lem : DamagedCluster (named later) undamaged_later no_flights (decode_with of_later (firsts_of undamaged_later) later_cluster) 8 2 payload_b
unfolding later setting_of majority histories_later count sum one_if committed held history_of undamaged_later image_from no_flights epoch_at epoch_of log_length lowest is_blank payload_in payload_at payload_a payload_b same first_index damaged
damaged_b_lem = damaged_cards (named later) refl undamaged_later no_flights (decode_with of_later (firsts_of undamaged_later) later_cluster) 8 2 payload_b (record {
  before = before_later;
  damage = damage_later;
  agree = agreed 3 2 (paid_from 7) histories_later alike_later;
  on_majority = omega arith;
  leader_held = refl;
})
