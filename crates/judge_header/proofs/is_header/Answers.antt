-- No first index; else the bytes decide.
use mathlib.Core.Path.{sym}
use native.Mathlib.Omega.{arith}
use Rattle.record.proofs.LayoutLaws.{header_size_high}
use Rattle.record.proofs.HeaderLaws.{first_high}
use Rattle.record.proofs.HeaderJudgeLaws.{header_no_first, header_bytes_lem}
use Rattle.judge_header.proofs.is_header.Goals as goal

pub returns-then-not-is_first : goal.returns-then-not-is_first
returns-then-not-is_first c =
    header_no_first _ _ _ _ c.is_first.ensures (omega arith) c.if-not-is_first.true

pub slice_bounds-w-end : goal.slice_bounds-w-end
slice_bounds-w-end c =
    omega (arith, header_size_high c.args.shape)

pub overflow_cast-first : goal.overflow_cast-first
overflow_cast-first c =
    omega (arith, first_high _ _ (sym c.if-not-is_first.ensures))

pub returns : goal.returns
returns c =
    header_bytes_lem _ _ _ _ c.is_first.ensures (omega arith) c.if-not-is_first.false (omega arith) (omega arith) c.is_written.ensures
