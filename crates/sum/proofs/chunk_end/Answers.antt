-- Written out, so that a longer chunk fails here.
use native.Mathlib.Omega.{arith}
use Rattle.sum.proofs.chunk_end.Goals as goal

pub returns-then-length-i-gt-CHUNK : goal.returns-then-length-i-gt-CHUNK
returns-then-length-i-gt-CHUNK c =
    (omega arith, omega arith, omega arith)

pub returns-else-length-i-gt-CHUNK : goal.returns-else-length-i-gt-CHUNK
returns-else-length-i-gt-CHUNK c =
    (omega arith, omega arith, omega arith)
