-- `log_length` goes up to the first slot that is unused.
use mathlib.Core.Path.{sym, ◌∙◌}
use native.Mathlib.Omega.{arith}
use Rattle.image.proofs.ScanLaws.{length_found, length_end}
use Rattle.vet_scan.proofs.log_length.Goals as goal

pub returns-then-is_unused : goal.returns-then-is_unused
returns-then-is_unused c =
    length_found _ _ c.loop-k.invariant c.loop-k-test.true (sym c.is_unused.ensures ∙ c.if-is_unused.true)

pub returns : goal.returns
returns c =
    length_end _ c.loop-k.k c.loop-k.invariant (omega arith)
