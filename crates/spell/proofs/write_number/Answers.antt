use Prim.Native.Nat.{◌-◌}
use mathlib.Core.Path.{◌∙◌}
use native.Mathlib.Omega.{arith}
use Rattle.column.proofs.LoopLaws.{column_none, write_step, write_end}
use Rattle.spell.proofs.write_number.Goals as goal

pub returns-in_default : goal.returns-in_default
returns-in_default c =
    column_none _ _ c.in_default.ensures.cases

pub loop-i-preserved : goal.loop-i-preserved
loop-i-preserved c =
    write_step c.loop-i.front c.loop-i.i (c.loop-i.i - 1) c.loop-i.rest _ (omega arith) (omega arith) c.high_byte.ensures ∙ c.loop-i.invariant

pub returns : goal.returns
returns c =
    write_end _ _ _ _ _ _ _ _ c.in-Some.ensures.cases.0 c.loop-i-test.false c.loop-i.invariant c.last_byte.ensures
