-- `scan` fills the slots from the front.
use mathlib.Core.Path.{◌≡◌}
use lib.ListN.{length}
use Rattle.image.specs.Image.{decode_under}
use Rattle.image.specs.Scan.{Scanned}
use Rattle.view.proofs.scan.Given as goal

abbrev pub invariant-loop-k : goal.invariant-loop-k
invariant-loop-k l = (length l.slots ≡ 64) × Scanned l.k (decode_under l.shape l.replica l.first l.image) l.slots
