-- `falls` finds a used slot whose epoch is below the one before it.
use native.Mathlib.Omega.{arith}
use Rattle.image.proofs.ScanLaws.{falls_found, falls_none}
use Rattle.vet_scan.proofs.falls.Goals as goal

pub returns-then-used-k : goal.returns-then-used-k
returns-then-used-k c =
    falls_found _ c.loop-k.k (omega arith) (omega arith) c.if-used-k.true

pub returns : goal.returns
returns c =
    falls_none _ c.loop-k.k (omega arith) c.loop-k.invariant
