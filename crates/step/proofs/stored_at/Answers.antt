-- `stored_at` counts from 1.
use Rattle.recovery.proofs.OutcomeLaws.{answer_stored}
use native.Mathlib.Omega.{arith}
use Rattle.step.proofs.stored_at.Goals as goal

pub returns : goal.returns
returns c =
    answer_stored c.args.c c.args.k _ (omega arith) (omega arith)
