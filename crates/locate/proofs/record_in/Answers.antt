-- Behind the images before its own.
use Prim.Native.Nat.{suc}
use Rattle.image.proofs.DecodeLaws.{record_fits}
use native.Mathlib.Omega.{arith}
use Rattle.locate.proofs.record_in.Goals as goal

pub overflow_add-result : goal.overflow_add-result
overflow_add-result c =
    omega (arith, record_fits c.args.shape (suc c.args.c) c.args.k c.requires.1)
