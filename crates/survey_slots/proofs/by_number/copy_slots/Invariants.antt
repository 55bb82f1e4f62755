use Rattle.std.proofs.Common.{get_or}
use Rattle.planner.specs.Survey.{Copied, number_as}
use Rattle.survey_slots.proofs.by_number.copy_slots.Given as goal

abbrev pub invariant-loop-k : goal.invariant-loop-k
invariant-loop-k l = record {
  conditions : Copied l.c l.initial.conditions (λ j. number_as l.witness (get_or l.seen_conditions j 0)) l.conditions l.k;
  epochs : Copied l.c l.initial.epochs (λ j. get_or l.seen_epochs j 0) l.epochs l.k;
}
