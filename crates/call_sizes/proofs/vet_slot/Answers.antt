use Rattle.std.proofs.Common.{rules}
use Rattle.image.specs.Refusal.{refuse, ◌else◌}
use Rattle.call_sizes.specs.Sizes.{slot_refusal}
use Rattle.call_sizes.proofs.vet_slot.Goals as goal

pub returns-then-not-is_slot : goal.returns-then-not-is_slot
unfolding slot_refusal refuse ◌else◌
returns-then-not-is_slot c = search rules

pub returns : goal.returns
unfolding slot_refusal refuse ◌else◌
returns c = search rules
