-- `holds_payload` looks up the condition of a slot that there is.
use mathlib.Core.Path.{sym, ◌∙◌}
use Rattle.image.proofs.PayloadLaws.{whole_low, whole_high, whole_at}
use native.Mathlib.Omega.{arith}
use Rattle.read_payload.proofs.holds_payload.Goals.{then-slot-eq0-via-then-slot-eq0, then-slot-eq0-via-else-slot-eq0+then-slots-slot}
use Rattle.read_payload.proofs.holds_payload.Goals as goal

pub returns-then-slot-eq0 : goal.returns-then-slot-eq0
returns-then-slot-eq0 c =
    elim c.then-slot-eq0.branch [
      | then-slot-eq0-via-then-slot-eq0 w ↦ λ m i e. whole_low _ _ m i e (omega (arith, w.if-slot-eq0.true))
      | then-slot-eq0-via-else-slot-eq0+then-slots-slot w ↦ λ m i e. whole_high _ _ m i e w.if-slots-slot.true
    ]

pub returns : goal.returns
returns c =
    λ m i e. c.is_whole.ensures ∙ sym (whole_at _ _ m i e (omega arith) (omega arith))
