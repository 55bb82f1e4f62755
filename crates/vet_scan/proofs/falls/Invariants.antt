-- Up to k no used slot's epoch is below the one before it.
use Rattle.image.proofs.ScanLaws.{RisesTo}
use Rattle.vet_scan.proofs.falls.Given as goal

abbrev pub invariant-loop-k : goal.invariant-loop-k
invariant-loop-k l = RisesTo l.used l.k
