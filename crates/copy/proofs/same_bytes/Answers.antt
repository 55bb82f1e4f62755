use mathlib.Core.Path.{sym, ◌∙◌}
use native.Mathlib.Omega.{arith}
use Rattle.slices.proofs.SameLaws.{same_lengths}
use Rattle.slices.proofs.LoopLaws.{same_step, same_end}
use Rattle.copy.proofs.same_bytes.Goals as goal

pub returns-then-a-b : goal.returns-then-a-b
returns-then-a-b c =
    sym (same_lengths _ _ (λ e. omega arith))

pub loop-i-preserved : goal.loop-i-preserved
loop-i-preserved c =
    (c.loop-i.invariant.0, sym (same_step c.loop-i.differing c.args.a.now c.args.b.now c.loop-i.i (omega arith) (omega arith)) ∙ c.loop-i.invariant.1)

pub returns : goal.returns
returns c =
    sym (same_end c.loop-i.differing c.args.a.now c.args.b.now c.loop-i.i (omega arith) (omega arith)) ∙ c.loop-i.invariant.1
