-- Every slot before k is used.
use Prim.Native.Nat.{ℕ, ◌<◌}
use mathlib.Core.Path.{◌≡◌}
use mathlib.Core.Bool.{false}
use Rattle.image.specs.View.{is_unused}
use Rattle.image.specs.Seen.{slot_in}
use Rattle.vet_scan.proofs.log_length.Given as goal

abbrev pub invariant-loop-k : goal.invariant-loop-k
invariant-loop-k l = (j : ℕ) → j < l.k → is_unused (slot_in l.slots j).condition ≡ false
