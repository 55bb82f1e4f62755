use Prim.Native.Nat.{ℕ, ◌*◌, ◌%◌, ◌/◌, ◌-◌, ◌<◌}
use mathlib.Core.Path.{◌≡◌}
use native.Mathlib.Omega.{arith}
use Rattle.sum.proofs.reduce.folded.Goals as goal

-- the lower half is what the upper leaves
lower : (x : ℕ) → x < 4294967296 → x - x / 65536 * 65536 % 4294967296 ≡ x % 65536
lower x h = omega arith

pub overflow_add-result : goal.overflow_add-result
overflow_add-result c =
    omega (arith, lower c.args.x (omega arith))
