-- The newline is looked at first, and then the checksum decides.
use native.Mathlib.Omega.{arith}
use Rattle.record.proofs.JudgeLaws.{seal_open, seal_shut}
use Rattle.judge.proofs.is_sealed.Goals as goal

pub returns-then-s-e-eq10 : goal.returns-then-s-e-eq10
returns-then-s-e-eq10 c =
    seal_shut c.args.s.now c.args.at _ _ (omega arith) c.if-s-e-eq10.true c.checksum_of.ensures c.holds_number.ensures

pub returns-else-s-e-eq10 : goal.returns-else-s-e-eq10
returns-else-s-e-eq10 c =
    seal_open _ _ _ (omega arith) c.if-s-e-eq10.false
