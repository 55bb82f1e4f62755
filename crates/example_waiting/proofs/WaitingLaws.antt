-- What is computed of the cluster that waits.
use mathlib.Core.Path.{refl}
use Rattle.example.specs.Undamaged.{payload_a, noise}
use Rattle.example_waiting.specs.Waiting.{three, scrawl, waiting_cluster}
use Rattle.example_waiting.specs.WaitingComputed.{WaitingComputed}
use Rattle.protocol.proofs.Opened.{opened}

pub waiting_computed : WaitingComputed
unfolding opened three payload_a noise scrawl waiting_cluster
waiting_computed = record {
  go_waiting = refl;
  planned_waiting = refl;
  wait_0 = record { rec = refl; ent = refl };
  wait_1 = record { rec = refl; ent = refl };
  wait_2 = record { rec = refl; ent = refl };
  wait_header_0 = refl;
  wait_header_1 = refl;
  wait_header_2 = refl;
  leader_faulty = refl;
  no_copy_0 = refl;
  no_copy_1 = refl;
  no_copy_2 = refl;
}
