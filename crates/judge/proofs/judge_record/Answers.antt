-- Only the number in its first column can be the epoch of a record, so `is_good` is asked for that one.
use mathlib.Core.Path.{sym}
use native.Mathlib.Omega.{arith}
use Rattle.record.proofs.RecordJudgeLaws.{good_fits, answer_good, answer_blank, answer_bad}
use Rattle.judge.proofs.judge_record.Goals as goal

pub overflow_cast-result : goal.overflow_cast-result
overflow_cast-result c =
    omega (arith, good_fits _ _ _ (sym c.if-is_good.ensures))

pub returns-then-is_good : goal.returns-then-is_good
returns-then-is_good c =
    answer_good _ _ c.number_in-epoch.ensures (sym c.if-is_good.ensures)

pub returns-then-is_blank : goal.returns-then-is_blank
returns-then-is_blank c =
    answer_blank _ _ c.number_in-epoch.ensures (sym c.if-is_good.ensures) (sym c.if-is_blank.ensures)

pub returns : goal.returns
returns c =
    answer_bad _ _ c.number_in-epoch.ensures (sym c.if-is_good.ensures) (sym c.if-is_blank.ensures)
