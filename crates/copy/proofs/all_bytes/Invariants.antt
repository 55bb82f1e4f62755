-- `all_bytes` compares to the end: what is left to compare, and whether anything differed, decide the whole.
use Prim.Native.Nat.{◌-◌}
use mathlib.Core.Path.{◌≡◌}
use mathlib.Core.Bool.{◌&&◌}
use lib.Dec.{eqb}
use lib.ListN.{length, drop, replicate}
use Rattle.slices.specs.Same.{same}
use Rattle.copy.proofs.all_bytes.Given as goal

abbrev pub invariant-loop-x : goal.invariant-loop-x
invariant-loop-x l =
    (eqb l.other 0 && same (drop l.x-index l.s) (replicate (length l.s - l.x-index) l.v)) ≡ same l.s (replicate (length l.s) l.v)
