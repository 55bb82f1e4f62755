use Rattle.report.proofs.CommandLaws as command
use Rattle.report.proofs.ReportLaws as law
use Prim.Native.Nat.{ℕ}
use mathlib.Core.Path.{◌≡◌, sym, ap, ◌∙◌}
use native.Mathlib.Omega.{arith}
use Rattle.slices.specs.Parts.{Bytes}
use Rattle.report.specs.Report.{cluster_report, first_edition, Prints}
use Rattle.print.proofs.report_of.Goals as goal

-- what is printed of a cluster of edition e, which is 1
printed : (n m e leader present : ℕ) (b : Bytes) {page bytes : Bytes} {count : ℕ} → Prints (cluster_report (record { n = n; m = m; edition = e; witnesses = 0 }) leader present b) bytes count → e ≡ 1
    → cluster_report (first_edition n m) leader present b ≡ page → Prints page bytes count
printed n m e leader present b p q f = law.prints (ap (λ (z : ℕ). cluster_report (record { n = n; m = m; edition = z; witnesses = 0 }) leader present b) q ∙ f) p

pub returns-then-input-gt-MAX_INPUT : goal.returns-then-input-gt-MAX_INPUT
returns-then-input-gt-MAX_INPUT c =
    law.prints (law.over_report _ c.if-input-gt-MAX_INPUT.true) c.report_refusal.ensures

pub returns-in_default : goal.returns-in_default
returns-in_default c =
    law.prints (law.malformed_report _ c.if-input-gt-MAX_INPUT.false c.read_command.ensures c.in_default.is) c.report_refusal-in_default.ensures

pub slice_bounds-report_cluster-count : goal.slice_bounds-report_cluster-count
slice_bounds-report_cluster-count c =
    command.well_long _ (sym c.read_command.ensures ∙ c.in-Well.is)

pub slice_bounds-report_cluster-start : goal.slice_bounds-report_cluster-start
slice_bounds-report_cluster-start c =
    command.well_long _ (sym c.read_command.ensures ∙ c.in-Well.is)

pub returns : goal.returns
returns c =
    printed _ _ _ _ _ _ c.report_cluster.ensures (omega arith)
    (law.well_report _ c.if-input-gt-MAX_INPUT.false c.read_command.ensures c.in-Well.is c.present_word.ensures)
