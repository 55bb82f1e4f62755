use native.Mathlib.Omega.{arith}
use mathlib.Core.Path.{refl}
use lib.ListN.{length-drop}
use Rattle.sum.proofs.RowLaws as law
use Rattle.sum.proofs.after_chunk.Goals as goal

pub loop-rest-init : goal.loop-rest-init
loop-rest-init c =
    rw (c.first_only-x.ensures, c.first_only-y.ensures)
    (law.rows_start _ _ _ _ _ (omega arith) (omega arith) (omega arith) (omega arith))

pub add-y-requires : goal.add-y-requires
add-y-requires c =
    let known = c.loop-rest.invariant in
    rw c.add-x.ensures (omega (arith, law.total_added c.loop-rest.x c.bytes_of.result, c.bytes_of.ensures.1, known.first_most, known.second_most, c.requires))

pub loop-rest-preserved : goal.loop-rest-preserved
loop-rest-preserved c =
    let row = c.bytes_of.ensures in
    let left = c.loop-rest.rest.now in
    rw (c.add-y.ensures, c.add-x.ensures, row.0)
    (law.rows_again _ left _ _ _ _ _ _ (omega arith) refl (law.rest left 8) (omega (arith, length-drop 8 left)) (rw row.0 at row.1) c.loop-rest.invariant)
