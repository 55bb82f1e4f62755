-- `same_bytes` compares to the end: what is left to compare, and whether anything differed, decide the whole.
use mathlib.Core.Path.{◌≡◌}
use mathlib.Core.Bool.{◌&&◌}
use lib.Dec.{eqb}
use lib.ListN.{length, drop}
use Rattle.slices.specs.Same.{same}
use Rattle.copy.proofs.same_bytes.Given as goal

abbrev pub invariant-loop-i : goal.invariant-loop-i
invariant-loop-i l =
    (length l.a ≡ length l.b) × ((eqb l.differing 0 && same (drop l.i l.a) (drop l.i l.b)) ≡ same l.a l.b)
