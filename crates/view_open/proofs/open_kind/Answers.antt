-- `open_kind` tries the caller's numbers, then whether the replica is of its kind, and then the image.
use Rattle.std.proofs.Common.{rules, sym, ◌∙◌}
use Rattle.image.specs.Refusal.{refuse, ◌else◌}
use Rattle.image.specs.View.{kind_refusal}
use Rattle.image.proofs.KindLaws.{kind_as_read}
use Rattle.view_open.proofs.open_kind.Goals as goal

pub returns-in_err-vet_named-clause-refusal : goal.returns-in_err-vet_named-clause-refusal
unfolding kind_refusal ◌else◌
returns-in_err-vet_named-clause-refusal c = search rules

pub returns-then-other-clause-refusal : goal.returns-then-other-clause-refusal
unfolding kind_refusal refuse ◌else◌
returns-then-other-clause-refusal c = search rules

pub returns-clause-refusal : goal.returns-clause-refusal
returns-clause-refusal c =
    c.open_image.ensures.refusal ∙ sym (kind_as_read _ _ _ _ c.if-other.false)
