-- The refusals of a scan in their order.
use Rattle.std.proofs.Common.{sym, ◌∙◌}
use Rattle.image.specs.Refusal.{refuse, ◌else◌}
use Rattle.vet_scan.specs.ByNumber.{scan_refusal}
use Rattle.vet_scan.proofs.by_number.scan_refusal.Goals as goal

pub returns-then-not-no_gap : goal.returns-then-not-no_gap
unfolding scan_refusal refuse ◌else◌
returns-then-not-no_gap c =
    sym (rw (sym c.no_gap.ensures ∙ c.if-not-no_gap.true))

pub returns-then-not-none_lost : goal.returns-then-not-none_lost
unfolding scan_refusal refuse ◌else◌
returns-then-not-none_lost c =
    sym (rw (sym c.no_gap.ensures ∙ c.if-not-no_gap.false, sym c.none_lost.ensures ∙ c.if-not-none_lost.true))

pub returns-then-not-rising : goal.returns-then-not-rising
unfolding scan_refusal refuse ◌else◌
returns-then-not-rising c =
    sym (rw (sym c.no_gap.ensures ∙ c.if-not-no_gap.false, sym c.none_lost.ensures ∙ c.if-not-none_lost.false, sym c.rising.ensures ∙ c.if-not-rising.true))

pub returns : goal.returns
unfolding scan_refusal refuse ◌else◌
returns c =
    sym (rw (sym c.no_gap.ensures ∙ c.if-not-no_gap.false, sym c.none_lost.ensures ∙ c.if-not-none_lost.false, sym c.rising.ensures ∙ c.if-not-rising.false))
