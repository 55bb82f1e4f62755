-- What is computed of the damaged five: the store that is due, the refusals, and what the damaged slots mean.
use Rattle.std.specs.Prelude.{ℕ, ◌≡◌, true, false}
use Rattle.std.proofs.Math.Option.{some}
use Rattle.slices.specs.Parts.{Bytes}
use Rattle.record.specs.Layout.{fresh_entry}
use Rattle.record.specs.Meaning.{proper, read_entry, Record, good, blank, bad, Entry, intact, broken}
use Rattle.image.specs.View.{read_refusal}
use Rattle.image.specs.Cluster.{image_part, decode}
use Rattle.planner.specs.Plan.{views_in, cluster_refusal}
use Rattle.planner.specs.Rules.{is_faulty, have, rule, is_wait, end}
use Rattle.protocol.specs.Store.{store_blank}
use Rattle.protocol.specs.StepBytes.{next_in}
use Rattle.protocol.specs.Call.{plan, step, run, Numbers, named, refusal_of}
use Rattle.example.specs.Undamaged.{payload_a, payload_b, payload_c, noise}
use Rattle.example.specs.Damaged.{of_five, five, scratch, damaged_cluster}

-- record and entry of slot k of replica c
pub record Means (N : Numbers) (b : Bytes) (c k : ℕ) (r : Record) (x : Entry) : Type 0 where
  pub rec : (decode N.shape b c).records k ≡ r
  pub ent : (decode N.shape b c).entries k ≡ x

pub record DamagedComputed : Type 0 where
  pub next_first : next_in (named five) damaged_cluster ≡ some (store_blank 0 2)
  pub planned : refusal_of five (plan 3 5) damaged_cluster ≡ 0
  pub refused_1 : refusal_of (record { shape = record { n = 5; m = 0; edition = 1; witnesses = 0 }; leader = 1; present = 31 }) (run 9) damaged_cluster ≡ 1
  pub refused_2 : refusal_of (record { shape = record { n = 8; m = 3; edition = 1; witnesses = 0 }; leader = 1; present = 31 }) step damaged_cluster ≡ 2
  pub refused_3 : refusal_of (record { shape = record { n = 5; m = 2; edition = 1; witnesses = 0 }; leader = 1; present = 31 }) step damaged_cluster ≡ 3
  pub refused_11 : refusal_of (record { shape = of_five; leader = 1; present = 63 }) step damaged_cluster ≡ 11
  pub refused_12 : refusal_of (record { shape = of_five; leader = 5; present = 31 }) step damaged_cluster ≡ 12
  pub refused_13 : refusal_of five (plan 2 5) damaged_cluster ≡ 13
  pub go_first : cluster_refusal of_five 1 31 damaged_cluster ≡ 0
  pub noise_broken : read_entry 1 noise ≡ broken noise
  -- what the slots mean
  pub slot_0_0 : Means five damaged_cluster 0 0 (good 2) (intact 1 payload_c)
  pub slot_0_1 : Means five damaged_cluster 0 1 (bad scratch) (intact 2 payload_b)
  pub slot_0_2 : Means five damaged_cluster 0 2 (good 2) (broken noise)
  pub slot_1_0 : Means five damaged_cluster 1 0 (good 2) (intact 2 payload_a)
  pub slot_1_1 : Means five damaged_cluster 1 1 (good 2) (intact 2 payload_b)
  pub slot_1_2 : Means five damaged_cluster 1 2 blank (broken fresh_entry)
  pub slot_2_0 : Means five damaged_cluster 2 0 blank (broken fresh_entry)
  pub slot_2_1 : Means five damaged_cluster 2 1 blank (broken fresh_entry)
  pub slot_2_2 : Means five damaged_cluster 2 2 blank (broken fresh_entry)
  pub slot_3_0 : Means five damaged_cluster 3 0 (good 2) (intact 2 payload_a)
  pub slot_3_1 : Means five damaged_cluster 3 1 (good 2) (broken noise)
  pub slot_3_2 : Means five damaged_cluster 3 2 blank (broken fresh_entry)
  pub slot_4_0 : Means five damaged_cluster 4 0 (good 2) (intact 2 payload_a)
  pub slot_4_1 : Means five damaged_cluster 4 1 blank (broken fresh_entry)
  pub slot_4_2 : Means five damaged_cluster 4 2 (good 2) (broken fresh_entry)
  pub header_0 : (decode of_five damaged_cluster 0).header ≡ proper 1
  pub header_1 : (decode of_five damaged_cluster 1).header ≡ proper 1
  pub header_2 : (decode of_five damaged_cluster 2).header ≡ proper 1
  pub header_3 : (decode of_five damaged_cluster 3).header ≡ proper 1
  pub header_4 : (decode of_five damaged_cluster 4).header ≡ proper 1
  pub gap : read_refusal of_five 5 (image_part of_five damaged_cluster 4) ≡ 5
  -- the leader's first entry is faulty, replica 2 has it, and the other slot that stays does not wait
  pub first_faulty : is_faulty ((views_in (named five) damaged_cluster 0).condition 0) ≡ true
  pub copy : have (named five) (views_in (named five) damaged_cluster) 0 1 ≡ true
  pub ends : end (named five) (views_in (named five) damaged_cluster) ≡ 2
  pub other_slot : is_wait (rule (named five) (views_in (named five) damaged_cluster) 1) ≡ false
