-- `put_freshes` leaves k fresh entries behind the records after k rounds.
use Prim.Native.Nat.{◌+◌, ◌*◌}
use mathlib.Core.Path.{◌≡◌}
use Rattle.search.specs.Search.{joined}
use Rattle.slices.specs.Parts.{spliced}
use Rattle.record.specs.Layout.{header_size, fresh_entry}
use Rattle.format.proofs.put_freshes.Given as goal

abbrev pub invariant-loop-k : goal.invariant-loop-k
invariant-loop-k l = l.image ≡ spliced l.initial.image (header_size l.shape + 34 * l.shape.m) (joined l.k (λ j. fresh_entry))
