-- What is computed of the clusters of edition 2.
use Rattle.std.specs.Prelude.{ℕ, ◌+◌, ◌≡◌}
use Rattle.std.proofs.Math.Option.{some}
use Rattle.slices.specs.Parts.{Bytes, part}
use Rattle.record.specs.Layout.{record_size, record_bytes, fresh_entry, entry_bytes}
use Rattle.record.specs.Meaning.{proper, improper, read_entry, Record, good, blank, Entry, intact, broken}
use Rattle.image.specs.Image.{record_at}
use Rattle.image.specs.View.{read_refusal}
use Rattle.image.specs.Cluster.{image_at, image_part, first_at, decode, decode_with}
use Rattle.planner.specs.Plan.{cluster_refusal}
use Rattle.protocol.specs.Store.{store_entry}
use Rattle.protocol.specs.StepBytes.{next_in}
use Rattle.protocol.specs.Call.{plan, step, run, Numbers, named, refusal_of}
use Rattle.protocol.specs.CallResult.{ready, recovered, stored, call_result, call_bytes}
use Rattle.example.specs.Undamaged.{payload_a, payload_b, payload_c, noise}
use Rattle.example_later.specs.Later.{of_later, later, long_scrawl, later_cluster, other_firsts, torn_later, later_torn}
use Rattle.example_later.specs.Misheaded.{of_misheaded, misheaded, misheaded_cluster}

-- record and entry of slot k of replica c, taken apart under an index
pub record MeansUnder (N : Numbers) (first : ℕ) (b : Bytes) (c k : ℕ) (r : Record) (x : Entry) : Type 0 where
  pub rec : (decode_with N.shape (λ c. first) b c).records k ≡ r
  pub ent : (decode_with N.shape (λ c. first) b c).entries k ≡ x

pub record LaterComputed : Type 0 where
  -- planning is not refused: all readable logs begin at 7. With the third readable it is 21; with another edition the length is wrong
  pub accepted : cluster_refusal of_later 1 7 later_cluster ≡ 0
  pub refused_21 : cluster_refusal of_later 1 7 other_firsts ≡ 21
  pub refused_3 : refusal_of (record { shape = record { n = 3; m = 2; edition = 1; witnesses = 0 }; leader = 1; present = 7 }) step later_cluster ≡ 3
  pub refused_2 : refusal_of (record { shape = record { n = 3; m = 2; edition = 3; witnesses = 0 }; leader = 1; present = 7 }) step later_cluster ≡ 2
  pub headers_0 : (decode of_later later_cluster 0).header ≡ proper 7
  pub headers_1 : (decode of_later later_cluster 1).header ≡ proper 7
  pub headers_2 : (decode of_later later_cluster 2).header ≡ improper long_scrawl
  pub slot_0_0 : MeansUnder later 7 later_cluster 0 0 (good 2) (broken noise)
  pub slot_0_1 : MeansUnder later 7 later_cluster 0 1 (good 2) (intact 2 payload_b)
  pub slot_1_0 : MeansUnder later 7 later_cluster 1 0 (good 2) (intact 2 payload_a)
  pub slot_1_1 : MeansUnder later 7 later_cluster 1 1 blank (broken fresh_entry)
  pub slot_2_0 : MeansUnder later 8 later_cluster 2 0 (good 2) (intact 2 payload_b)
  pub slot_2_1 : MeansUnder later 8 later_cluster 2 1 blank (broken fresh_entry)
  pub begins : first_at of_later later_cluster 0 ≡ 7
  pub next_store : next_in (named later) later_cluster ≡ some (store_entry 0 0 1)
  pub torn_broken : read_entry 7 torn_later ≡ broken torn_later
  pub is_ready : call_result later (plan 2 3) later_cluster ≡ ready 2
  pub last_run : call_result later (run 18) later_torn ≡ recovered 3
  pub read_0 : read_refusal of_later 1 (image_part of_later later_cluster 0) ≡ 0
  pub read_1 : read_refusal of_later 2 (image_part of_later later_cluster 1) ≡ 0
  -- the leader's header gives another index than its log's; the first store overwrites the record of A
  pub mis_accepted : cluster_refusal of_misheaded 1 1 misheaded_cluster ≡ 0
  pub mis_header : (decode of_misheaded misheaded_cluster 0).header ≡ proper 5
  pub mis_0 : MeansUnder misheaded 3 misheaded_cluster 0 0 (good 2) (broken (entry_bytes 1 5 payload_c))
  pub mis_1 : MeansUnder misheaded 3 misheaded_cluster 1 0 (good 2) (intact 2 payload_a)
  pub mis_2 : MeansUnder misheaded 3 misheaded_cluster 2 0 (good 2) (intact 2 payload_a)
  pub mis_before : part misheaded_cluster (image_at of_misheaded 0 + record_at of_misheaded 0) record_size ≡ record_bytes 2 3
  pub mis_step : call_result misheaded step misheaded_cluster ≡ stored 1 1 2
  pub mis_after : part (call_bytes misheaded step misheaded_cluster) (image_at of_misheaded 0 + record_at of_misheaded 0) record_size ≡ record_bytes 1 5
