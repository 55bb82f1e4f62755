-- `open_image` tries the caller's numbers, and then the image.
use Rattle.std.proofs.Common.{rules, sym}
use Rattle.image.specs.Refusal.{◌else◌}
use Rattle.image.specs.View.{read_refusal}
use Rattle.image.proofs.CallLaws.{called_slots, called_size}
use Rattle.view_open.proofs.open_image.Goals as goal

pub returns-in_err-vet_call-clause-refusal : goal.returns-in_err-vet_call-clause-refusal
unfolding read_refusal ◌else◌
returns-in_err-vet_call-clause-refusal c = search rules

pub view_image-requires : goal.view_image-requires
view_image-requires c =
    (called_slots _ _ _ (sym c.in_ok-vet_call.ensures), called_size _ _ _ (sym c.in_ok-vet_call.ensures))

pub returns-clause-refusal : goal.returns-clause-refusal
unfolding read_refusal ◌else◌
returns-clause-refusal c = search rules
