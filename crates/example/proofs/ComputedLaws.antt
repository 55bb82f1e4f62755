-- All of it is computed from the definitions.
use mathlib.Core.Path.{refl}
use Rattle.example.specs.Undamaged.{payload_a, payload_b, payload_c, noise}
use Rattle.example.specs.Damaged.{five, scratch, first, second, third, fourth, fifth, damaged_cluster}
use Rattle.example.specs.Computed.{DamagedComputed}
use Rattle.protocol.proofs.Opened.{opened}

pub computed : DamagedComputed
unfolding opened five payload_a payload_b payload_c noise scratch first second third fourth fifth damaged_cluster
computed = record {
  next_first = refl;
  planned = refl;
  refused_1 = refl;
  refused_2 = refl;
  refused_3 = refl;
  refused_11 = refl;
  refused_12 = refl;
  refused_13 = refl;
  go_first = refl;
  noise_broken = refl;
  slot_0_0 = record { rec = refl; ent = refl };
  slot_0_1 = record { rec = refl; ent = refl };
  slot_0_2 = record { rec = refl; ent = refl };
  slot_1_0 = record { rec = refl; ent = refl };
  slot_1_1 = record { rec = refl; ent = refl };
  slot_1_2 = record { rec = refl; ent = refl };
  slot_2_0 = record { rec = refl; ent = refl };
  slot_2_1 = record { rec = refl; ent = refl };
  slot_2_2 = record { rec = refl; ent = refl };
  slot_3_0 = record { rec = refl; ent = refl };
  slot_3_1 = record { rec = refl; ent = refl };
  slot_3_2 = record { rec = refl; ent = refl };
  slot_4_0 = record { rec = refl; ent = refl };
  slot_4_1 = record { rec = refl; ent = refl };
  slot_4_2 = record { rec = refl; ent = refl };
  header_0 = refl;
  header_1 = refl;
  header_2 = refl;
  header_3 = refl;
  header_4 = refl;
  gap = refl;
  first_faulty = refl;
  copy = refl;
  ends = refl;
  other_slot = refl;
}
