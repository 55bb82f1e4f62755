use Rattle.image.specs.View.{condition_number}
use Rattle.image.specs.Seen.{slot_in}
use Rattle.planner.specs.Survey.{Copied, number_as}
use Rattle.survey_slots.proofs.copy_slots.Given as goal

abbrev pub invariant-loop-k : goal.invariant-loop-k
invariant-loop-k l = record {
  conditions : Copied l.c l.initial.conditions (λ j. number_as l.witness (condition_number (slot_in l.view.slots j).condition)) l.conditions l.k;
  epochs : Copied l.c l.initial.epochs (λ j. (slot_in l.view.slots j).epoch) l.epochs l.k;
}
