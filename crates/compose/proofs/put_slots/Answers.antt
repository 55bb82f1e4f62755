use Prim.Native.Nat.{◌-◌}
use Rattle.report.proofs.LineLaws as law
use native.Mathlib.Omega.{arith}
use Rattle.compose.proofs.put_slots.Goals as goal

pub loop-k-init : goal.loop-k-init
loop-k-init c =
    law.lines_start _ _ _ _ c.requires.0

pub loop-k-preserved : goal.loop-k-preserved
loop-k-preserved c =
    law.lines_step _ _ _ _ c.requires.0 _ (omega arith) c.loop-k.invariant c.put_slot.ensures

pub returns : goal.returns
returns c =
    law.lines_end _ _ _ _ c.requires.0 _ _ (omega arith) c.loop-k-test.false c.loop-k.invariant
