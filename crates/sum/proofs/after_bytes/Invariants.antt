-- The sums are not reduced within the loop: what is left of the definition, from their remainders on, is the whole.
use Prim.Native.Nat.{◌+◌, ◌*◌, ◌%◌, ◌≤◌}
use mathlib.Core.Path.{◌≡◌}
use lib.ListN.{drop}
use Rattle.checksum.specs.Checksum.{sum_a, sum_b}
use Rattle.sum.proofs.after_bytes.Given as goal

abbrev pub invariant-loop-byte : goal.invariant-loop-byte
invariant-loop-byte l =
    (l.x ≤ 587774 + 255 * l.byte-index)
    × (l.y ≤ 2147483647 + 595934 * l.byte-index)
    × (sum_a (l.x % 65535) (drop l.byte-index l.s) ≡ sum_a (l.a % 65535) l.s)
    × (sum_b (l.x % 65535) (l.y % 65535) (drop l.byte-index l.s) ≡ sum_b (l.a % 65535) (l.b % 65535) l.s)
