use Rattle.call_images.proofs.ImageCallLaws.{append_done, append_refused}
use mathlib.Core.Path.{sym, ap, ◌∙◌}
use Rattle.image.specs.Answers.{numbers}
use native.Mathlib.Omega.{arith}
use Rattle.call_witnesses.proofs.witness_append.Goals as goal

pub returns-in-Ok : goal.returns-in-Ok
returns-in-Ok c =
    let e = c.append_witness.ensures in
    append_done _ _ _ _ e.image _ _ (ap numbers (sym c.in-Ok.is) ∙ e.answer) (omega arith)

pub returns-in-Err : goal.returns-in-Err
returns-in-Err c =
    let e = c.append_witness.ensures in
    append_refused _ _ _ _ e.image _ _ (ap numbers (sym c.in-Err.is) ∙ e.answer) c.refusal_number.ensures
