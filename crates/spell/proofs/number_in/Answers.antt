use mathlib.Core.Path.{refl, sym, ◌∙◌}
use native.Mathlib.Omega.{arith}
use native.Mathlib.Numerals.{add-one}
use borrow.Author.Rules.{rules}
use Rattle.column.specs.Column.{value_of}
use Rattle.column.proofs.ColumnLaws.{step_lt}
use Rattle.column.proofs.LoopLaws.{value_step, value_end, pow_le}
use Rattle.spell.proofs.number_in.Goals as goal

pub loop-byte-init : goal.loop-byte-init
unfolding value_of
loop-byte-init c =
    (search rules, refl)

pub digit_step-v-requires : goal.digit_step-v-requires
digit_step-v-requires c =
    omega (arith, pow_le c.loop-byte.byte-index (omega arith))

pub loop-byte-preserved : goal.loop-byte-preserved
loop-byte-preserved c =
    (rw (c.digit_step-v.ensures, add-one) (step_lt _ _ _ c.loop-byte.invariant.0), rw c.digit_step-v.ensures (sym (value_step _ _ _ c.loop-byte-test.true) ∙ c.loop-byte.invariant.1))

pub returns : goal.returns
returns c =
    sym (value_end _ _ _ c.loop-byte-test.false) ∙ c.loop-byte.invariant.1
