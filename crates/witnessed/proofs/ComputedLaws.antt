-- All of it is computed from the definitions.
use mathlib.Core.Path.{refl}
use Rattle.example.specs.Undamaged.{payload_a, noise}
use Rattle.witnessed.specs.Kept.{kept_away, kept_all, kept_with, kept_cluster, forgotten_cluster}
use Rattle.witnessed.specs.Alone.{alone, alone_cluster}
use Rattle.witnessed.specs.Computed.{KeptComputed, AloneComputed}
use Rattle.protocol.proofs.Opened.{opened}

pub kept_computed : KeptComputed
unfolding opened payload_a noise kept_away kept_all kept_with kept_cluster forgotten_cluster
kept_computed = record {
  size = refl;
  image_0 = record { reads = refl; header = refl; rec = refl; ent = refl };
  image_1 = record { reads = refl; header = refl; rec = refl; ent = refl };
  image_2 = record { reads = refl; header = refl; rec = refl; ent = refl };
  image_3 = record { reads = refl; header = refl; rec = refl; ent = refl };
  image_4 = record { reads = refl; header = refl; rec = refl; ent = refl };
  accepted_away = refl;
  waits = refl;
  cuts = refl;
  accepted_all = refl;
  is_ready = refl;
  whole_run = refl;
  refused_22 = refl;
  refused_11 = refl;
  refused_12 = refl;
  refused_3 = refl;
}

pub alone_computed : AloneComputed
unfolding opened payload_a noise alone alone_cluster
alone_computed = record {
  accepted = refl;
  planned = refl;
  image_0 = record { reads = refl; header = refl; rec = refl; ent = refl };
  image_1 = record { reads = refl; header = refl; rec = refl; ent = refl };
  image_2 = record { reads = refl; header = refl; rec = refl; ent = refl };
  faulty = refl;
  no_copy_0 = refl;
  no_copy_1 = refl;
  no_copy_2 = refl;
}
