use Rattle.planner.proofs.RowLaws.{rows_none, rows_more, rows_all}
use borrow.Author.Rules.{rules}
use native.Mathlib.Omega.{arith}
use Rattle.tabulate.proofs.survey_rows.Goals as goal

pub loop-c-init : goal.loop-c-init
loop-c-init c =
    (search rules, rows_none _)

pub replica_row-requires : goal.replica_row-requires
replica_row-requires c =
    (omega arith, c.requires.1 _ c.loop-c-test.true)

pub loop-c-preserved : goal.loop-c-preserved
loop-c-preserved c =
    (search rules, rows_more _ _ _ (omega arith) c.loop-c.invariant.1 c.replica_row.ensures)

pub returns : goal.returns
returns c =
    record { sized = c.loop-c.invariant.0; rows = rows_all _ _ _ _ (omega arith) c.loop-c-test.false c.loop-c.invariant.1 }
