use mathlib.Core.Path.{refl}
use Rattle.planner.specs.Tabulated.{no_row}
use Rattle.tabulate.proofs.outcome_row.Goals as goal

pub returns : goal.returns
unfolding no_row
returns c =
    refl
