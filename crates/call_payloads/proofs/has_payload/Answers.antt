use Rattle.call_payloads.proofs.PayloadCallLaws.{has_at, has_found, has_refused}
use Rattle.call_payloads.specs.Payloads.{flag}
use mathlib.Core.Path.{sym, ap, ◌∙◌}
use borrow.Author.Rules.{rules}
use Rattle.image.specs.Answers.{numbers}
use native.Mathlib.Omega.{arith}
use Rattle.call_payloads.proofs.has_payload.Goals as goal

pub returns-in-Ok : goal.returns-in-Ok
unfolding flag
returns-in-Ok c =
    has_found _ _ _ c.in-Ok.found (ap numbers (sym c.in-Ok.is) ∙ has_at _ _ _ _ _ c.has_payload.ensures (omega arith)) (search rules)

pub returns-in-Err : goal.returns-in-Err
returns-in-Err c =
    has_refused _ _ _ _ (ap numbers (sym c.in-Err.is) ∙ has_at _ _ _ _ _ c.has_payload.ensures (omega arith)) c.refusal_number.ensures
