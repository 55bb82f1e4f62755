-- `entry_state` judges the part of the image at which the entry of slot k stands.
use Rattle.image.proofs.DecodeLaws.{entry_ends}
use Rattle.image.proofs.SlotLaws.{entry_judged}
use native.Mathlib.Omega.{arith}
use Rattle.view_slot.proofs.entry_state.Goals as goal

pub overflow_add-e : goal.overflow_add-e
overflow_add-e c =
    omega (arith, entry_ends c.args.shape c.args.k c.requires.1, c.requires.2)

pub slice_bounds-judge_entry-end : goal.slice_bounds-judge_entry-end
slice_bounds-judge_entry-end c =
    omega (arith, entry_ends c.args.shape c.args.k c.requires.1, c.requires.2)

pub returns : goal.returns
returns c =
    entry_judged _ _ _ _ c.requires.1 c.index_of.ensures c.entry_at-a.ensures c.judge_entry.ensures
