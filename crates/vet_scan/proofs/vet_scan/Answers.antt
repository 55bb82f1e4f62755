-- `vet_scan` tries the refusals of a scan in their order.
use mathlib.Core.Path.{sym, ◌∙◌}
use Rattle.image.proofs.ScanLaws.{scan_gap, scan_lost, scan_falls, scan_none}
use Rattle.vet_scan.proofs.vet_scan.Goals as goal

pub returns-then-has_gap : goal.returns-then-has_gap
returns-then-has_gap c =
    scan_gap _ _ (sym c.has_gap.ensures ∙ c.if-has_gap.true)

pub returns-then-has_lost : goal.returns-then-has_lost
returns-then-has_lost c =
    scan_lost _ _ (sym c.has_gap.ensures ∙ c.if-has_gap.false) (sym c.has_lost.ensures ∙ c.if-has_lost.true)

pub returns-then-falls : goal.returns-then-falls
returns-then-falls c =
    scan_falls _ _ (sym c.has_gap.ensures ∙ c.if-has_gap.false) (sym c.has_lost.ensures ∙ c.if-has_lost.false) (sym c.falls.ensures ∙ c.if-falls.true)

pub returns : goal.returns
returns c =
    scan_none _ _ (sym c.has_gap.ensures ∙ c.if-has_gap.false) (sym c.has_lost.ensures ∙ c.if-has_lost.false) (sym c.falls.ensures ∙ c.if-falls.false)
