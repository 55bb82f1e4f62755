-- `entry_span` finds the payload of an intact entry by its length; a whole slot has no other.
use Prim.Native.Nat.{ℕ, ◌+◌}
use mathlib.Core.Path.{◌≡◌, ap}
use Rattle.image.specs.Image.{entry_at}
use Rattle.image.proofs.DecodeLaws.{entry_ends}
use Rattle.image.proofs.PayloadLaws.{span_empty, span_none, span_short, span_fits, span_there}
use native.Mathlib.Omega.{arith}
use Rattle.read_payload.proofs.entry_span.Goals as goal

pub returns-in_default : goal.returns-in_default
returns-in_default c =
    (span_empty _, span_none _ _ _ _ c.requires.1 _ c.entry_state.ensures c.in_default.is)

pub overflow_add-start : goal.overflow_add-start
overflow_add-start c =
    omega (arith, entry_ends c.args.shape c.args.k c.requires.1)

pub overflow_add-result : goal.overflow_add-result
overflow_add-result c =
    omega (arith, entry_ends c.args.shape c.args.k c.requires.1, span_short _ _ _ _ c.requires.1 _ c.entry_state.ensures c.in-Some.is)

pub returns : goal.returns
returns c =
    let there = c.entry_state.ensures in
    let found = c.in-Some.is in
    let km = c.requires.1 in
    let at : c.entry_at-start.result + 26 ≡ entry_at c.args.shape c.args.k + 26 = ap (λ (z : ℕ). z + 26) c.entry_at-start.ensures in
    (record { ordered = omega arith; within = span_fits _ _ _ _ km _ there found at c.requires.2 }, λ i card w. span_there _ _ _ _ km _ there found at)
