-- Each part is computed in the crate of its cluster.
use Rattle.example.proofs.ComputedLaws.{computed}
use Rattle.example_visited.proofs.VisitedLaws.{visited_computed}
use Rattle.example_waiting.proofs.WaitingLaws.{waiting_computed}
use Rattle.example_even.proofs.EvenLaws.{even_computed}
use Rattle.example_computed.proofs.computed_claim.Goals as goal

pub returns : goal.returns
returns c = record {
  next_first = computed.next_first;
  next_torn = visited_computed.next_torn;
  next_record = visited_computed.next_record;
  next_last = visited_computed.next_last;
  planned = computed.planned;
  refused_1 = computed.refused_1;
  refused_2 = computed.refused_2;
  refused_3 = computed.refused_3;
  refused_11 = computed.refused_11;
  refused_12 = computed.refused_12;
  refused_13 = computed.refused_13;
  go_first = computed.go_first;
  go_blanked = visited_computed.go_blanked;
  go_torn = visited_computed.go_torn;
  go_fetched = visited_computed.go_fetched;
  go_two = visited_computed.go_two;
  go_last = visited_computed.go_last;
  noise_broken = computed.noise_broken;
  begins = visited_computed.begins;
  slot_0_0 = computed.slot_0_0;
  slot_0_1 = computed.slot_0_1;
  slot_0_2 = computed.slot_0_2;
  slot_1_0 = computed.slot_1_0;
  slot_1_1 = computed.slot_1_1;
  slot_1_2 = computed.slot_1_2;
  slot_2_0 = computed.slot_2_0;
  slot_2_1 = computed.slot_2_1;
  slot_2_2 = computed.slot_2_2;
  slot_3_0 = computed.slot_3_0;
  slot_3_1 = computed.slot_3_1;
  slot_3_2 = computed.slot_3_2;
  slot_4_0 = computed.slot_4_0;
  slot_4_1 = computed.slot_4_1;
  slot_4_2 = computed.slot_4_2;
  header_0 = computed.header_0;
  header_1 = computed.header_1;
  header_2 = computed.header_2;
  header_3 = computed.header_3;
  header_4 = computed.header_4;
  gap = computed.gap;
  spent_run = visited_computed.spent_run;
  last_run = visited_computed.last_run;
  whole_run = visited_computed.whole_run;
  first_faulty = computed.first_faulty;
  copy = computed.copy;
  ends = computed.ends;
  other_slot = computed.other_slot;
  waiting = waiting_computed;
  even = even_computed;
}
