-- `put_blanks` leaves k blank records behind the header after k rounds.
use mathlib.Core.Path.{◌≡◌}
use Rattle.search.specs.Search.{joined}
use Rattle.slices.specs.Parts.{spliced}
use Rattle.record.specs.Layout.{header_size, blank_record}
use Rattle.format.proofs.put_blanks.Given as goal

abbrev pub invariant-loop-k : goal.invariant-loop-k
invariant-loop-k l = l.image ≡ spliced l.initial.image (header_size l.shape) (joined l.k (λ j. blank_record))
