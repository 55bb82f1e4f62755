use native.Mathlib.Omega.{arith}
use mathlib.Core.Path.{refl}
use Rattle.sum.specs.Rows.{row_of}
use Rattle.sum.proofs.eight.bytes_of.Goals as goal

pub returns : goal.returns
unfolding row_of
returns c =
    let byte = c.type_inv.row in
    (refl, omega (arith, byte 0, byte 1, byte 2, byte 3, byte 4, byte 5, byte 6, byte 7))
