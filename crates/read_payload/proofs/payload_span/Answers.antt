-- `payload_span` finds the payload of a whole slot.
use Prim.Native.Nat.{◌-◌}
use mathlib.Core.Bool.{not}
use mathlib.Core.Path.{sym, ap, ◌∙◌}
use Rattle.image.proofs.CallLaws.{slots_high}
use Rattle.image.proofs.ReadLaws.{opened_slots, opened_size, opened_card}
use Rattle.image.proofs.PayloadLaws.{has_low, has_below, has_whole, span_empty, no_payload_refused, no_payload, payload_there}
use Rattle.image.proofs.AppendSteps.{number_above}
use Rattle.image.specs.Image.{Image}
use Rattle.image.specs.View.{condition_at}
use Rattle.image.specs.Read.{is_whole}
use Rattle.image.proofs.DecodeLaws.{entries_end, under_first}
use native.Mathlib.Omega.{arith}
use Rattle.read_payload.proofs.payload_span.Goals as goal

pub returns-in_default : goal.returns-in_default
returns-in_default c =
    let s = c.args in
    (span_empty _, no_payload_refused s.shape s.replica s.image.now _ _ c.in_default.ensures.refusal (λ e. omega (arith, e, number_above c.in_default.field-0)))

pub shared_ref_as_front-holds_payload : goal.shared_ref_as_front-holds_payload
shared_ref_as_front-holds_payload c =
    slots_high _ (opened_slots _ _ _ 0 c.in-Ok.ensures.refusal (omega arith))

pub returns-then-not-holds_payload : goal.returns-then-not-holds_payload
returns-then-not-holds_payload c =
    let s = c.args in
    let opened = c.in-Ok.ensures in
    (span_empty _, no_payload s.shape s.replica s.image.now _ 0 opened.refusal _ (c.holds_payload.ensures _ _ opened.seen.slots_are) (ap not c.if-not-holds_payload.true))

pub overflow_sub-slot : goal.overflow_sub-slot
overflow_sub-slot c =
    has_low _ _ _ (sym (c.holds_payload.ensures _ _ c.in-Ok.ensures.seen.slots_are) ∙ c.if-not-holds_payload.false)

pub entry_span-requires : goal.entry_span-requires
entry_span-requires c =
    let s = c.args in
    let opened = c.in-Ok.ensures in (
      slots_high _ (opened_slots s.shape s.replica s.image.now 0 opened.refusal (omega arith)),
      has_below _ _ _ (sym (c.holds_payload.ensures _ _ opened.seen.slots_are) ∙ c.if-not-holds_payload.false),
      omega (arith, opened_size s.shape s.replica s.image.now 0 opened.refusal (omega arith), entries_end s.shape s.replica (opened_card s.shape s.replica s.image.now 0 opened.refusal (omega arith))),
    )

pub returns : goal.returns
returns c =
    let s = c.args in
    let opened = c.in-Ok.ensures in
    let has = sym (c.holds_payload.ensures _ _ opened.seen.slots_are) ∙ c.if-not-holds_payload.false in
    let card = opened_card s.shape s.replica s.image.now 0 opened.refusal (omega arith) in
    let whole = ap (λ (i : Image). is_whole (condition_at i (s.slot - 1))) (under_first _ _ _ opened.seen.first_is) ∙ has_whole _ _ _ has in
    (c.entry_span.ensures.0, payload_there s.shape s.replica s.image.now _ 0 opened.refusal (omega arith) has _ (c.entry_span.ensures.1 _ card whole))
