-- `fill_epochs` copies from the front.
use mathlib.Core.Path.{◌≡◌}
use lib.ListN.{length, take}
use Rattle.search.specs.Search.{listed}
use Rattle.image.specs.Seen.{slot_in}
use Rattle.read.proofs.fill_epochs.Given as goal

abbrev pub invariant-loop-k : goal.invariant-loop-k
invariant-loop-k l = (length l.epochs ≡ length l.initial.epochs) × (take l.k l.epochs ≡ listed l.k (λ j. (slot_in l.slots j).epoch))
