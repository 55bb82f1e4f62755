-- `record_state` judges the part of the image at which the record of slot k stands.
use Rattle.image.proofs.AppendSteps.{record_within}
use Rattle.image.proofs.SlotLaws.{record_judged}
use native.Mathlib.Omega.{arith}
use Rattle.view_slot.proofs.record_state.Goals as goal

pub overflow_add-e : goal.overflow_add-e
overflow_add-e c =
    omega (arith, record_within c.args.shape c.args.k c.args.image.now c.requires.1 c.requires.2 c.record_at-a.ensures)

pub slice_bounds-judge_record-end : goal.slice_bounds-judge_record-end
slice_bounds-judge_record-end c =
    omega (arith, record_within c.args.shape c.args.k c.args.image.now c.requires.1 c.requires.2 c.record_at-a.ensures)

pub returns : goal.returns
returns c =
    record_judged _ _ _ _ c.requires.1 c.index_of.ensures c.record_at-a.ensures c.judge_record.ensures
