use Prim.Native.Nat.{◌-◌}
use mathlib.Core.Path.{◌∙◌}
use native.Mathlib.Omega.{arith}
use lib.ListN.{length-take}
use lib.Seq.{take-length}
use Rattle.column.proofs.LoopLaws.{holds_none, holds_start, holds_last_off, holds_step, holds_off, holds_end, last_left}
use Rattle.spell.proofs.holds_number.Goals as goal

pub returns-in_default : goal.returns-in_default
returns-in_default c =
    holds_none _ _ c.in_default.ensures.cases

pub returns-then-last-last_byte : goal.returns-then-last-last_byte
returns-then-last-last_byte c =
    holds_last_off _ _ _ c.in-Some.ensures.cases.0 _ _ c.last_byte.ensures c.if-last-last_byte.true

pub loop-at-init : goal.loop-at-init
loop-at-init c =
    rw (take-length c.in-Some.front.now)
    (holds_start _ _ _ c.in-Some.ensures.cases.0 _ _ c.last_byte.ensures c.if-last-last_byte.false)

pub returns-then-front-at : goal.returns-then-front-at
returns-then-front-at c =
    holds_off _ _ _ (last_left c.in-Some.front.now c.loop-at.at (c.loop-at.at - 1) (omega arith) (omega arith)) _ _ c.high_byte.ensures (λ e. omega arith) ∙ c.loop-at.invariant

pub loop-at-preserved : goal.loop-at-preserved
loop-at-preserved c =
    holds_step _ _ _ (last_left c.in-Some.front.now c.loop-at.at (c.loop-at.at - 1) (omega arith) (omega arith)) _ _ c.high_byte.ensures (omega arith) ∙ c.loop-at.invariant

pub returns : goal.returns
returns c =
    holds_end _ _ (omega (arith, length-take c.loop-at.at c.in-Some.front.now)) ∙ c.loop-at.invariant
