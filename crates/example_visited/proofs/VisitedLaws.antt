-- What is computed on the way to a recovery.
use mathlib.Core.Path.{refl}
use Rattle.example.specs.Undamaged.{payload_a, payload_b, payload_c, noise}
use Rattle.example.specs.Damaged.{five, scratch, first, second, third, fourth, fifth, damaged_cluster}
use Rattle.example_visited.specs.Visited.{blanked_one, torn_one, fetched_one, two_more, last_stored}
use Rattle.example_visited.specs.VisitedComputed.{VisitedComputed}
use Rattle.protocol.proofs.Opened.{opened}

pub visited_computed : VisitedComputed
unfolding opened five payload_a payload_b payload_c noise scratch first second third fourth fifth damaged_cluster blanked_one torn_one fetched_one two_more last_stored
visited_computed = record {
  next_torn = refl;
  next_record = refl;
  next_last = refl;
  go_blanked = refl;
  go_torn = refl;
  go_fetched = refl;
  go_two = refl;
  go_last = refl;
  begins = refl;
  spent_run = refl;
  last_run = refl;
  whole_run = refl;
}
