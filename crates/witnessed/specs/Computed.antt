-- What is computed of the clusters with witnesses.
use Rattle.std.specs.Prelude.{ℕ, suc, ◌≡◌, true, false, [], length}
use Rattle.slices.specs.Parts.{Bytes}
use Rattle.record.specs.declared.Shape.{Shape}
use Rattle.record.specs.Layout.{fresh_entry}
use Rattle.record.specs.Meaning.{proper, Record, good, blank, Entry, intact, broken}
use Rattle.image.specs.View.{read_refusal}
use Rattle.image.specs.Cluster.{image_part, decode}
use Rattle.planner.specs.Plan.{views_in, cluster_refusal}
use Rattle.planner.specs.Rules.{is_faulty, have}
use Rattle.protocol.specs.Call.{plan, step, run, named, refusal_of}
use Rattle.protocol.specs.CallResult.{waiting, ready, recovered, call_result}
use Rattle.example.specs.Undamaged.{payload_a, noise}
use Rattle.witnessed.specs.Kept.{of_kept, kept_away, kept_all, kept_cluster, forgotten_cluster}
use Rattle.witnessed.specs.Alone.{of_alone, alone, alone_cluster}

-- the image of replica c is readable, its header gives index 1, and this is its one slot
pub record ImageIs (Z : Shape) (b : Bytes) (c : ℕ) (r : Record) (x : Entry) : Type 0 where
  pub reads : read_refusal Z (suc c) (image_part Z b c) ≡ 0
  pub header : (decode Z b c).header ≡ proper 1
  pub rec : (decode Z b c).records 0 ≡ r
  pub ent : (decode Z b c).entries 0 ≡ x

pub record KeptComputed : Type 0 where
  -- three cards of 302 bytes and two witnesses of 62
  pub size : length kept_cluster ≡ 1030
  pub image_0 : ImageIs of_kept kept_cluster 0 (good 2) (broken noise)
  pub image_1 : ImageIs of_kept kept_cluster 1 blank (broken fresh_entry)
  pub image_2 : ImageIs of_kept kept_cluster 2 (good 2) (intact 2 payload_a)
  pub image_3 : ImageIs of_kept kept_cluster 3 (good 2) (broken [])
  pub image_4 : ImageIs of_kept kept_cluster 4 blank (broken [])
  -- card 3 away: with the record of witness 4 the plan waits, and without it the slot is cut
  pub accepted_away : cluster_refusal of_kept 1 27 kept_cluster ≡ 0
  pub waits : call_result kept_away (plan 1 5) kept_cluster ≡ waiting 1
  pub cuts : call_result kept_away (plan 1 5) forgotten_cluster ≡ ready 0
  -- all present: the entry is fetched, card 2 gets entry and record, witness 5 its record
  pub accepted_all : cluster_refusal of_kept 1 31 kept_cluster ≡ 0
  pub is_ready : call_result kept_all (plan 1 5) kept_cluster ≡ ready 1
  pub whole_run : call_result kept_all (run 15) kept_cluster ≡ recovered 4
  -- a witness that is no replica is 22, behind 11 and before 12, and adds nothing to the length; leading a witness is 12; without the set
  -- the length is wrong
  pub refused_22 : refusal_of (record { shape = record { n = 5; m = 1; edition = 1; witnesses = 56 }; leader = 4; present = 31 }) step kept_cluster ≡ 22
  pub refused_11 : refusal_of (record { shape = record { n = 5; m = 1; edition = 1; witnesses = 56 }; leader = 1; present = 63 }) step kept_cluster ≡ 11
  pub refused_12 : refusal_of (record { shape = of_kept; leader = 4; present = 31 }) step kept_cluster ≡ 12
  pub refused_3 : refusal_of (record { shape = record { n = 5; m = 1; edition = 1; witnesses = 0 }; leader = 1; present = 31 }) step kept_cluster ≡ 3

pub record AloneComputed : Type 0 where
  pub accepted : cluster_refusal of_alone 1 7 alone_cluster ≡ 0
  pub planned : refusal_of alone (plan 1 3) alone_cluster ≡ 0
  pub image_0 : ImageIs of_alone alone_cluster 0 (good 2) (broken noise)
  pub image_1 : ImageIs of_alone alone_cluster 1 (good 2) (broken [])
  pub image_2 : ImageIs of_alone alone_cluster 2 (good 2) (broken [])
  pub faulty : is_faulty ((views_in (named alone) alone_cluster 0).condition 0) ≡ true
  pub no_copy_0 : have (named alone) (views_in (named alone) alone_cluster) 0 0 ≡ false
  pub no_copy_1 : have (named alone) (views_in (named alone) alone_cluster) 0 1 ≡ false
  pub no_copy_2 : have (named alone) (views_in (named alone) alone_cluster) 0 2 ≡ false

pub record Computed : Type 0 where
  pub kept : KeptComputed
  pub only_witnesses : AloneComputed
