-- `vet_format` tries the first index before the size.
use Rattle.std.proofs.Common.{arith, rules}
use Rattle.image.specs.Refusal.{refuse, ◌else◌}
use Rattle.image.specs.Append.{format_refusal}
use Rattle.image.proofs.CallLaws.{slots_high, named_slots_in}
use Rattle.vet.proofs.vet_format.Goals as goal

pub returns-in_err-vet_named : goal.returns-in_err-vet_named
unfolding format_refusal ◌else◌
returns-in_err-vet_named c = search rules

pub returns-then-not-is_first : goal.returns-then-not-is_first
unfolding format_refusal refuse ◌else◌
returns-then-not-is_first c = search rules

pub image_size-requires : goal.image_size-requires
image_size-requires c =
    grind (arith, named_slots_in, slots_high)

pub returns-then-size-image_size : goal.returns-then-size-image_size
unfolding format_refusal refuse ◌else◌
returns-then-size-image_size c = search rules

pub returns : goal.returns
unfolding format_refusal refuse ◌else◌
returns c = search rules
