use Rattle.std.proofs.Common.{rules}
use mathlib.Core.Path.{sym}
use native.Mathlib.Omega.{arith}
use Rattle.image.specs.Refusal.{refuse, ◌else◌}
use Rattle.call_sizes.proofs.SizeLaws.{slot_from, few_slots_in, slot_below}
use Rattle.call_sizes.proofs.find_entry.Goals as goal

pub returns-in_err-vet_slot : goal.returns-in_err-vet_slot
unfolding ◌else◌
returns-in_err-vet_slot c = search rules

pub returns-then-is_witness : goal.returns-then-is_witness
unfolding refuse ◌else◌
returns-then-is_witness c = search rules

pub overflow_sub-slot : goal.overflow_sub-slot
overflow_sub-slot c =
    omega (arith, slot_from _ _ _ (sym c.in_ok-vet_slot.ensures))

pub entry_at-requires : goal.entry_at-requires
entry_at-requires c =
    (few_slots_in _ _ _ (sym c.in_ok-vet_slot.ensures), omega (arith, slot_below _ _ _ (sym c.in_ok-vet_slot.ensures)))

pub returns : goal.returns
unfolding refuse ◌else◌
returns c = search rules
