use Rattle.call_images.proofs.ImageCallLaws.{witness_done, witness_refused}
use mathlib.Core.Path.{sym, ap, ◌∙◌}
use Rattle.image.specs.Answers.{log_numbers}
use native.Mathlib.Omega.{arith}
use Rattle.call_witnesses.proofs.witness_read.Goals as goal

pub returns-in-Ok : goal.returns-in-Ok
returns-in-Ok c =
    let e = c.read_witness.ensures in
    witness_done _ _ _ _ _ _ e.1 _ _ _ _ (ap log_numbers (sym c.in-Ok.is) ∙ e.0) (omega arith) (omega arith)

pub returns-in-Err : goal.returns-in-Err
returns-in-Err c =
    let e = c.read_witness.ensures in
    rw c.refusal_number.ensures (witness_refused _ _ _ _ _ _ e.1 _ _ _ (ap log_numbers (sym c.in-Err.is) ∙ e.0) (omega arith) (omega arith))
