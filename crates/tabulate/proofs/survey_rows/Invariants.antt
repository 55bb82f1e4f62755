use mathlib.Core.Path.{◌≡◌}
use lib.ListN.{length, take}
use Rattle.search.specs.Search.{listed}
use Rattle.planner.specs.Tabulated.{number_row}
use Rattle.tabulate.proofs.survey_rows.Given as goal

abbrev pub invariant-loop-c : goal.invariant-loop-c
invariant-loop-c l = (length l.rows ≡ 7) × (take l.c l.rows ≡ listed l.c (number_row l.readable l.lengths l.epochs))
