-- `fill_bytes` fills from the front: so many bytes are v, and the others as they were.
use mathlib.Core.Path.{◌≡◌}
use mathlib.Core.List.{◌++◌}
use lib.ListN.{drop, replicate}
use Rattle.copy.proofs.fill_bytes.Given as goal

abbrev pub invariant-loop-x : goal.invariant-loop-x
invariant-loop-x l = l.s ≡ replicate l.x-index l.v ++ drop l.x-index l.initial.s
