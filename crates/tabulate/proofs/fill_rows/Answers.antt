use Prim.Native.Nat.{◌<◌}
use native.Mathlib.Omega.{arith}
use native.Mathlib.Numerals.{add-one}
use lib.ListN.{length}
use Rattle.planner.proofs.FrontLaws.{front_none, front_more}
use Rattle.tabulate.proofs.fill_rows.Goals as goal

pub loop-c-init : goal.loop-c-init
loop-c-init c = front_none c.args.found.rows c.args.rows.now

pub loop-c-preserved : goal.loop-c-preserved
loop-c-preserved c =
    let new = c.args.found.rows in
    let old = c.args.rows.now in
    let here : c.loop-c.c < length new = omega (arith, c.requires) in
    let there : c.loop-c.c < length old = omega (arith, c.requires) in
    rw (c.loop-c.invariant, add-one) (front_more c.loop-c.c new old here there c.outcome_row.ensures)
