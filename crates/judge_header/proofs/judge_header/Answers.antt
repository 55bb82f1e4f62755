-- Only the number in its column can be the first index of a header, so `is_header` is asked for that one.
use mathlib.Core.Path.{sym}
use native.Mathlib.Omega.{arith}
use Rattle.record.proofs.HeaderJudgeLaws.{answer_size, answer_proper, answer_improper, header_fits}
use Rattle.judge_header.proofs.judge_header.Goals as goal

pub returns-then-s-header_size : goal.returns-then-s-header_size
returns-then-s-header_size c =
    answer_size _ _ _ (λ e. omega (arith, e, c.if-s-header_size.true))

pub overflow_cast-result : goal.overflow_cast-result
overflow_cast-result c =
    omega (arith, header_fits _ _ _ _ (sym c.if-is_header.ensures))

pub returns-then-is_header : goal.returns-then-is_header
returns-then-is_header c =
    answer_proper _ _ _ c.first_in-first.ensures (omega arith) (sym c.if-is_header.ensures)

pub returns : goal.returns
returns c =
    answer_improper _ _ _ c.first_in-first.ensures (sym c.if-is_header.ensures)
