use mathlib.Core.Path.{sym}
use native.Mathlib.Omega.{arith}
use Rattle.call_sizes.proofs.SizeLaws.{slot_from, slot_below}
use Rattle.call_sizes.proofs.find_record.Goals as goal

pub overflow_sub-slot : goal.overflow_sub-slot
overflow_sub-slot c =
    omega (arith, slot_from _ _ _ (sym c.in_ok-vet_slot.ensures))

pub record_at-requires : goal.record_at-requires
record_at-requires c =
    omega (arith, slot_below _ _ _ (sym c.in_ok-vet_slot.ensures))
