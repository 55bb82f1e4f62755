use Rattle.std.proofs.Common.{arith}
use Rattle.planner.proofs.SeenLaws.{copied_none, copied_more, copied_all}
use Rattle.survey_slots.proofs.by_number.copy_slots.Goals as goal

pub loop-k-init : goal.loop-k-init
loop-k-init c = record { conditions = copied_none _ _ _; epochs = copied_none _ _ _ }

pub loop-k-preserved : goal.loop-k-preserved
loop-k-preserved c = record {
  conditions = copied_more _ c.loop-k.invariant.conditions (omega arith) c.condition_as.ensures;
  epochs = copied_more _ c.loop-k.invariant.epochs (omega arith) (omega arith);
}

pub returns : goal.returns
returns c = record { conditions = copied_all _ c.loop-k.invariant.conditions c.loop-k-test.false; epochs = copied_all _ c.loop-k.invariant.epochs c.loop-k-test.false }
