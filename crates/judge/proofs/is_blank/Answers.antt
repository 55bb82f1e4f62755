-- The newline is looked at first, and then the spaces decide.
use native.Mathlib.Omega.{arith}
use Rattle.record.proofs.RecordJudgeLaws.{blank_open, blank_spaces}
use Rattle.judge.proofs.is_blank.Goals as goal

pub returns-then-s-eq10 : goal.returns-then-s-eq10
returns-then-s-eq10 c =
    blank_spaces _ (omega arith) _ c.if-s-eq10.true c.all_bytes.ensures

pub returns-else-s-eq10 : goal.returns-else-s-eq10
returns-else-s-eq10 c =
    blank_open _ (omega arith) c.if-s-eq10.false
