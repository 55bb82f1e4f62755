-- `faulty_verdict` goes by whether the entry is intact.
use Rattle.image.proofs.VerdictSteps.{faulty_stale, faulty_last, faulty_damaged}
use Rattle.read_verdicts.proofs.faulty_verdict.Goals as goal

pub returns-in-Some : goal.returns-in-Some
returns-in-Some c =
    faulty_stale _ _ _ c.in-Some.is

pub returns-in-None : goal.returns-in-None
returns-in-None c =
    faulty_last _ _ _ c.in-None.is c.if-k-used.true

pub returns-in-None-2 : goal.returns-in-None-2
returns-in-None-2 c =
    faulty_damaged _ _ _ c.in-None-2.is c.if-k-used.false
