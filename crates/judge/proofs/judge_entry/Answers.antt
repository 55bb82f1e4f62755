-- Only the numbers in their columns can be epoch and length of an entry, so `is_intact` is asked for those.
use mathlib.Core.Path.{sym}
use native.Mathlib.Omega.{arith}
use Rattle.record.proofs.EntryJudgeLaws.{intact_fits, answer_intact, answer_broken}
use Rattle.judge.proofs.judge_entry.Goals as goal

pub overflow_cast-result : goal.overflow_cast-result
overflow_cast-result c =
    omega (arith, intact_fits _ _ _ _ (sym c.if-is_intact.ensures))

pub returns-then-is_intact : goal.returns-then-is_intact
returns-then-is_intact c =
    answer_intact _ _ _ _ (omega arith) c.number_in-epoch.ensures c.number_in-size.ensures (sym c.if-is_intact.ensures)

pub returns : goal.returns
returns c =
    answer_broken _ _ _ _ (omega arith) c.number_in-epoch.ensures c.number_in-size.ensures (sym c.if-is_intact.ensures)
