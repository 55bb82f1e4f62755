-- Too long, another front, another length, and then what stands behind the payload decides.
use mathlib.Core.Path.{◌∙◌}
use native.Mathlib.Omega.{arith}
use Rattle.record.proofs.JudgeLaws.{and_first, and_next, column_here}
use Rattle.record.proofs.EntryJudgeLaws.{intact_too_long, intact_no_front, intact_behind}
use Rattle.judge.proofs.is_intact.Goals as goal

pub returns-then-size-gt-MAX_PAYLOAD : goal.returns-then-size-gt-MAX_PAYLOAD
returns-then-size-gt-MAX_PAYLOAD c =
    intact_too_long _ _ _ _ (omega arith) c.if-size-gt-MAX_PAYLOAD.true

pub returns-then-not-is_front : goal.returns-then-not-is_front
returns-then-not-is_front c =
    intact_no_front _ _ _ _ (omega arith) (omega arith) c.if-not-is_front.ensures

pub returns-then-holds_number : goal.returns-then-holds_number
returns-then-holds_number c =
    and_next _ _ (intact_behind _ _ _ _ (omega arith) (omega arith) c.if-not-is_front.ensures) (c.holds_number.ensures ∙ column_here c.args.s.now 22 4 _ (omega arith)) c.if-holds_number.true c.is_closed.ensures

pub returns-else-holds_number : goal.returns-else-holds_number
returns-else-holds_number c =
    and_first _ _ (intact_behind _ _ _ _ (omega arith) (omega arith) c.if-not-is_front.ensures) (c.holds_number.ensures ∙ column_here c.args.s.now 22 4 _ (omega arith)) c.if-holds_number.false
