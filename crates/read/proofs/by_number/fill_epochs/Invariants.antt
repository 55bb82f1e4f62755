-- `fill_epochs` copies from the front.
use mathlib.Core.Path.{◌≡◌}
use lib.ListN.{length, take, get_or}
use Rattle.search.specs.Search.{listed}
use Rattle.read.proofs.by_number.fill_epochs.Given as goal

abbrev pub invariant-loop-k : goal.invariant-loop-k
invariant-loop-k l = (length l.epochs ≡ length l.initial.epochs) × (take l.k l.epochs ≡ listed l.k (λ j. get_or l.seen j 0))
