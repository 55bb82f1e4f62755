-- Behind the images before its own.
use Prim.Native.Nat.{suc}
use Rattle.image.proofs.DecodeLaws.{entry_fits}
use native.Mathlib.Omega.{arith}
use Rattle.locate.proofs.entry_in.Goals as goal

pub overflow_add-result : goal.overflow_add-result
overflow_add-result c =
    omega (arith, entry_fits c.args.shape (suc c.args.c) c.args.k c.requires.1 c.requires.2)
