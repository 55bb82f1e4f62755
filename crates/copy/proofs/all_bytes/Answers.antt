use mathlib.Core.Path.{sym, ◌∙◌}
use native.Mathlib.Omega.{arith}
use Rattle.slices.proofs.LoopLaws.{all_step, all_end}
use Rattle.copy.proofs.all_bytes.Goals as goal

pub loop-x-preserved : goal.loop-x-preserved
loop-x-preserved c =
    sym (all_step c.loop-x.other c.args.s.now _ c.loop-x.x-index (omega arith)) ∙ c.loop-x.invariant

pub returns : goal.returns
returns c =
    sym (all_end c.loop-x.other c.args.s.now _ c.loop-x.x-index (omega arith)) ∙ c.loop-x.invariant
