-- `vet_call` tries the size last; m is bounded where what the caller names is not refused.
use Rattle.std.proofs.Common.{arith, rules}
use Rattle.image.specs.Refusal.{refuse, ◌else◌}
use Rattle.image.specs.View.{call_refusal}
use Rattle.image.proofs.CallLaws.{slots_high, named_slots_in}
use Rattle.vet.proofs.vet_call.Goals as goal

pub returns-in_err-vet_named : goal.returns-in_err-vet_named
unfolding call_refusal ◌else◌
returns-in_err-vet_named c = search rules

pub image_size-requires : goal.image_size-requires
image_size-requires c =
    grind (arith, named_slots_in, slots_high)

pub returns-then-size-image_size : goal.returns-then-size-image_size
unfolding call_refusal refuse ◌else◌
returns-then-size-image_size c = search rules

pub returns : goal.returns
unfolding call_refusal refuse ◌else◌
returns c = search rules
