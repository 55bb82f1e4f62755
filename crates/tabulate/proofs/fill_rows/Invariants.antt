-- `fill_rows` fills from the front: the first c rows are those that were found, and the others as they were.
use mathlib.Core.Path.{◌≡◌}
use Rattle.planner.specs.Tabulated.{front_rows}
use Rattle.tabulate.proofs.fill_rows.Given as goal

abbrev pub invariant-loop-c : goal.invariant-loop-c
invariant-loop-c l = l.rows ≡ front_rows l.c l.found.rows l.initial.rows
