-- What is computed of the clusters of edition 2.
use mathlib.Core.Path.{refl}
use Rattle.example.specs.Undamaged.{payload_a, payload_b, payload_c, noise}
use Rattle.example_later.specs.Later.{later, later_first, later_second, later_slots, long_scrawl, later_cluster, other_firsts, torn_later, later_torn}
use Rattle.example_later.specs.Misheaded.{misheaded, misheaded_cluster}
use Rattle.example_later.specs.LaterComputed.{LaterComputed}
use Rattle.protocol.proofs.Opened.{opened}

pub later_computed : LaterComputed
unfolding opened payload_a payload_b payload_c noise later later_first later_second later_slots long_scrawl later_cluster other_firsts torn_later later_torn misheaded misheaded_cluster
later_computed = record {
  accepted = refl;
  refused_21 = refl;
  refused_3 = refl;
  refused_2 = refl;
  headers_0 = refl;
  headers_1 = refl;
  headers_2 = refl;
  slot_0_0 = record { rec = refl; ent = refl };
  slot_0_1 = record { rec = refl; ent = refl };
  slot_1_0 = record { rec = refl; ent = refl };
  slot_1_1 = record { rec = refl; ent = refl };
  slot_2_0 = record { rec = refl; ent = refl };
  slot_2_1 = record { rec = refl; ent = refl };
  begins = refl;
  next_store = refl;
  torn_broken = refl;
  is_ready = refl;
  last_run = refl;
  read_0 = refl;
  read_1 = refl;
  mis_accepted = refl;
  mis_header = refl;
  mis_0 = record { rec = refl; ent = refl };
  mis_1 = record { rec = refl; ent = refl };
  mis_2 = record { rec = refl; ent = refl };
  mis_before = refl;
  mis_step = refl;
  mis_after = refl;
}
