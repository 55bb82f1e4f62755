-- `holds_number` compares from the right: what is left to compare decides the whole.
use mathlib.Core.Path.{◌≡◌}
use lib.ListN.{length, take}
use Rattle.slices.specs.Parts.{Bytes}
use Rattle.slices.specs.Same.{same}
use Rattle.column.specs.Column.{digits, column}
use Rattle.spell.proofs.holds_number.Given as goal

abbrev pub invariant-loop-at : goal.invariant-loop-at
invariant-loop-at l =
    let left : Bytes = take l.at l.front in
    same left (digits (length left) l.above) ≡ same l.s (column (length l.s) l.x)
