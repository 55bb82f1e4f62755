-- `has_payload` answers for an image that is not refused.
use Rattle.std.proofs.Common.{rules}
use Rattle.image.specs.Answers.{numbered}
use Rattle.image.proofs.CallLaws.{slots_high}
use Rattle.image.proofs.ReadLaws.{opened_slots}
use Rattle.image.proofs.PayloadLaws.{payload_answered}
use native.Mathlib.Omega.{arith}
use Rattle.read_payload.proofs.has_payload.Goals as goal

pub returns-in_err-view : goal.returns-in_err-view
unfolding numbered
returns-in_err-view c = search rules

pub shared_ref_as_front-holds_payload : goal.shared_ref_as_front-holds_payload
shared_ref_as_front-holds_payload c =
    slots_high _ (opened_slots _ _ _ 0 c.in_ok-view.ensures.refusal (omega arith))

pub returns : goal.returns
returns c =
    payload_answered c.in_ok-view.ensures.refusal (c.holds_payload.ensures _ _ c.in_ok-view.ensures.seen.slots_are)
