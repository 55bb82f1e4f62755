-- `write_number` writes from the right: the digits of what is left of the number would make the front whole.
use Prim.Native.Nat.{◌/◌}
use mathlib.Core.Path.{◌≡◌}
use mathlib.Core.List.{◌++◌}
use lib.ListN.{length, drop}
use Rattle.column.specs.Column.{digits}
use Rattle.spell.proofs.write_number.Given as goal

abbrev pub invariant-loop-i : goal.invariant-loop-i
invariant-loop-i l = digits l.i l.rest ++ drop l.i l.front ≡ digits (length l.initial.front) (l.x / 10)
