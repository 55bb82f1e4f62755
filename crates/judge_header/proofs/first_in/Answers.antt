-- The number in its column, or 1 where a header has no such column.
use mathlib.Core.Path.{sym}
use native.Mathlib.Omega.{arith}
use Rattle.record.proofs.LayoutLaws.{header_size_two}
use Rattle.record.proofs.HeaderJudgeLaws.{first_given, first_known}
use Rattle.judge_header.proofs.first_in.Goals as goal

pub slice_bounds-number_in-end : goal.slice_bounds-number_in-end
slice_bounds-number_in-end c =
    omega (arith, header_size_two c.args.shape (sym c.if-gives_first.ensures))

pub returns-then-gives_first : goal.returns-then-gives_first
returns-then-gives_first c =
    first_given _ c.args.s.now (sym c.if-gives_first.ensures) c.number_in.ensures

pub returns : goal.returns
returns c =
    first_known _ _ (sym c.if-gives_first.ensures) (omega arith)
