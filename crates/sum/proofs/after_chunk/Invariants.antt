-- Row after row: what is left of the definition, from what the eight and the eight come to, is the whole.
use lib.ListN.{length}
use Rattle.sum.proofs.RowLaws as law
use Rattle.sum.proofs.after_chunk.Given as goal

abbrev pub invariant-loop-rest : goal.invariant-loop-rest
invariant-loop-rest l = law.Rows l.s l.rest l.sums.a l.sums.b l.x l.y

abbrev pub decreases-loop-rest : goal.decreases-loop-rest
decreases-loop-rest l = length l.rest
