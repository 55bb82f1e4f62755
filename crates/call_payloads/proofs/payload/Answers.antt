use Rattle.call_payloads.proofs.PayloadCallLaws.{payload_part}
use native.Mathlib.Omega.{arith}
use Rattle.call_payloads.proofs.payload.Goals as goal

pub returns : goal.returns
returns c =
    payload_part _ _ _ _ _ c.payload_span-span.ensures.0 c.payload_span-span.ensures.1 (omega arith) (omega arith)
