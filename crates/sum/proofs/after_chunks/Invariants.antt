-- Chunk after chunk: what is left of the definition, from the sums so far on, is the whole.
use Prim.Native.Nat.{◌-◌, ◌<◌, ◌≤◌}
use mathlib.Core.Path.{◌≡◌}
use lib.ListN.{length, drop}
use Rattle.checksum.specs.Checksum.{sum_a, sum_b}
use Rattle.sum.proofs.after_chunks.Given as goal

abbrev pub invariant-loop-i : goal.invariant-loop-i
invariant-loop-i l =
    (l.i ≤ length l.s)
    × (l.sums.a < 65535)
    × (l.sums.b < 65535)
    × (sum_a l.sums.a (drop l.i l.s) ≡ sum_a 1 l.s)
    × (sum_b l.sums.a l.sums.b (drop l.i l.s) ≡ sum_b 1 0 l.s)

abbrev pub decreases-loop-i : goal.decreases-loop-i
decreases-loop-i l = length l.s - l.i
