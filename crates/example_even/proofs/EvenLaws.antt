-- What is computed of the cluster of four.
use mathlib.Core.Path.{refl}
use Rattle.example.specs.Undamaged.{payload_a, payload_c, noise}
use Rattle.example_even.specs.Four.{four, even_cluster, even_torn}
use Rattle.example_even.specs.EvenComputed.{EvenComputed}
use Rattle.protocol.proofs.Opened.{opened}

pub even_computed : EvenComputed
unfolding opened four payload_a payload_c noise even_cluster even_torn
even_computed = record {
  go_even = refl;
  next_even = refl;
  even_begins = refl;
  go_even_torn = refl;
  even_0 = record { rec = refl; ent = refl };
  even_1 = record { rec = refl; ent = refl };
  even_2 = record { rec = refl; ent = refl };
  even_3 = record { rec = refl; ent = refl };
  even_header_0 = refl;
  even_header_1 = refl;
  even_header_2 = refl;
  even_header_3 = refl;
  even_ready = refl;
  even_read_0 = refl;
  even_read_1 = refl;
  even_read_2 = refl;
  even_read_3 = refl;
  even_run = refl;
}
