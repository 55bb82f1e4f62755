use native.Mathlib.Omega.{arith}
use Rattle.image.proofs.SlotLaws.{scan_start, scan_more, scan_end}
use borrow.Author.Rules.{rules}
use Rattle.view.proofs.scan.Goals as goal

pub loop-k-init : goal.loop-k-init
loop-k-init c =
    (search rules, scan_start _ _)

pub loop-k-preserved : goal.loop-k-preserved
loop-k-preserved c =
    (search rules, scan_more _ _ _ _ (omega arith) c.loop-k.invariant.1 c.slot_at.ensures)

pub returns : goal.returns
returns c =
    scan_end _ _ _ c.loop-k.k (omega arith) (omega arith) c.loop-k.invariant.1
