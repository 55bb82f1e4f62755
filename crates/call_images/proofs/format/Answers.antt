use Rattle.call_images.proofs.ImageCallLaws.{format_done, format_refused}
use mathlib.Core.Path.{sym, ap, ◌∙◌}
use Rattle.image.specs.Answers.{numbers}
use native.Mathlib.Omega.{arith}
use Rattle.call_images.proofs.format.Goals as goal

pub returns-in-Ok : goal.returns-in-Ok
returns-in-Ok c =
    let e = c.format_image.ensures in
    format_done _ _ _ _ _ _ (ap numbers (sym c.in-Ok.is) ∙ e.answer, e.image) (omega arith) (omega arith)

pub returns-in-Err : goal.returns-in-Err
returns-in-Err c =
    let e = c.format_image.ensures in
    format_refused _ _ _ _ _ _ _ (ap numbers (sym c.in-Err.is) ∙ e.answer, e.image) (omega arith) c.refusal_number.ensures
