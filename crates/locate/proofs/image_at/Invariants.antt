-- The images before it, one after another.
use mathlib.Core.Path.{◌≡◌}
use Rattle.image.specs.Cluster.{image_at}
use Rattle.locate.proofs.image_at.Given as goal

abbrev pub invariant-loop-d : goal.invariant-loop-d
invariant-loop-d l = l.at ≡ image_at l.shape l.d
