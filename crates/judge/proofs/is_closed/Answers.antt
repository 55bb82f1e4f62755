-- Behind the seal the spaces decide.
use mathlib.Core.Path.{◌∙◌}
use native.Mathlib.Omega.{arith}
use Rattle.record.proofs.JudgeLaws.{and_first, and_next, close_tests, close_spaces}
use Rattle.judge.proofs.is_closed.Goals as goal

pub returns-then-is_sealed : goal.returns-then-is_sealed
returns-then-is_sealed c =
    and_next _ _ (close_tests c.args.s.now _ c.args.at (omega arith) (omega arith)) c.is_sealed.ensures c.if-is_sealed.true (c.all_bytes.ensures ∙ close_spaces c.args.s.now c.args.at (omega arith) (omega arith))

pub returns-else-is_sealed : goal.returns-else-is_sealed
returns-else-is_sealed c =
    and_first _ _ (close_tests c.args.s.now _ c.args.at (omega arith) (omega arith)) c.is_sealed.ensures c.if-is_sealed.false
