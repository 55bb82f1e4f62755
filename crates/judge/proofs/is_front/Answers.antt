-- No epoch, another epoch, and then the index decides.
use mathlib.Core.Path.{◌∙◌}
use native.Mathlib.Omega.{arith}
use Rattle.record.proofs.JudgeLaws.{and_first, and_next, column_here, front_no_epoch, front_columns}
use Rattle.judge.proofs.is_front.Goals as goal

pub returns-then-epoch-lt1 : goal.returns-then-epoch-lt1
returns-then-epoch-lt1 c =
    front_no_epoch _ _ _ c.then-epoch-lt1.either

pub returns-then-holds_number : goal.returns-then-holds_number
returns-then-holds_number c =
    and_next _ _ (front_columns _ _ _ (omega arith) (omega arith)) (c.holds_number.ensures ∙ column_here c.args.s.now 0 11 _ (omega arith)) c.if-holds_number.true (c.holds_number-then-holds_number.ensures ∙ column_here c.args.s.now 11 11 _ (omega arith))

pub returns-else-holds_number : goal.returns-else-holds_number
returns-else-holds_number c =
    and_first _ _ (front_columns _ _ _ (omega arith) (omega arith)) (c.holds_number.ensures ∙ column_here c.args.s.now 0 11 _ (omega arith)) c.if-holds_number.false
