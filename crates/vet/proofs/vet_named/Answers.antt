-- `vet_named` tries the caller's numbers in the order of their refusals.
use Rattle.std.proofs.Common.{rules}
use Rattle.image.specs.Refusal.{refuse, ◌else◌}
use Rattle.image.specs.View.{named_refusal}
use Rattle.vet.proofs.vet_named.Goals as goal

pub returns-then-not-is_slots : goal.returns-then-not-is_slots
unfolding named_refusal refuse ◌else◌
returns-then-not-is_slots c = search rules

pub returns-then-not-is_size : goal.returns-then-not-is_size
unfolding named_refusal refuse ◌else◌
returns-then-not-is_size c = search rules

pub returns : goal.returns
unfolding named_refusal refuse ◌else◌
returns c = search rules
