-- `number_in` reads from the left: what is read and what is left make up the whole.
use Prim.Native.Nat.{◌^◌, ◌<◌}
use mathlib.Core.Path.{◌≡◌}
use lib.ListN.{drop}
use Rattle.column.specs.Column.{value_from, value_of}
use Rattle.spell.proofs.number_in.Given as goal

abbrev pub invariant-loop-byte : goal.invariant-loop-byte
invariant-loop-byte l = (l.v < 10 ^ l.byte-index) × (value_from l.v (drop l.byte-index l.s) ≡ value_of l.s)
