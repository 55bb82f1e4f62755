use Rattle.planner.specs.Tabulated.{no_row, last_epoch}
use mathlib.Core.Path.{refl, sym, ◌∙◌}
use Rattle.planner.proofs.RowLaws.{row_off, row_on}
use native.Mathlib.Omega.{arith}
use Rattle.tabulate.proofs.replica_row.Goals as goal

pub returns-then-not-contains : goal.returns-then-not-contains
unfolding no_row
returns-then-not-contains c =
    row_off _ _ _ _ (sym c.contains.ensures ∙ c.if-not-contains.true)

pub last_epoch-last_epoch-requires : goal.last_epoch-last_epoch-requires
last_epoch-last_epoch-requires c =
    omega (arith, c.requires.1 (sym c.contains.ensures ∙ c.if-not-contains.false))

pub overflow_cast-result : goal.overflow_cast-result
overflow_cast-result c =
    omega (arith, c.requires.1 (sym c.contains.ensures ∙ c.if-not-contains.false))

pub returns : goal.returns
unfolding last_epoch
returns c =
    row_on _ _ _ _ (sym c.contains.ensures ∙ c.if-not-contains.false) (omega arith) (rw c.last_epoch-last_epoch.ensures refl)
