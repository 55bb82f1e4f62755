use Prim.Native.Nat.{◌≤◌}
use mathlib.Core.Path.{◌∙◌}
use Rattle.checksum.proofs.SumLaws as law
use borrow.Author.Rules.{rules}
use native.Mathlib.Omega.{arith}
use Rattle.sum.proofs.after_chunks.Goals as goal

pub loop-i-init : goal.loop-i-init
loop-i-init c =
    (search rules, search rules, search rules, law.chunks_start_a _ _ (omega arith), law.chunks_start_b _ _ _ (omega arith) (omega arith))

pub loop-i-preserved : goal.loop-i-preserved
loop-i-preserved c =
    let known = c.loop-i.invariant in
    let sums = c.after_chunk-sums.ensures in
    let on : c.loop-i.i ≤ c.chunk_end-e.result = omega arith in (
      search rules,
      rw sums.first (law.sum_a_lt _ _ known.1),
      rw sums.second (law.sum_b_lt _ _ _ known.2),
      rw sums.first (law.chunks_a _ _ _ _ on ∙ known.3),
      rw (sums.first, sums.second) (law.chunks_b _ _ _ _ _ on ∙ known.4),
    )

pub returns : goal.returns
returns c =
    let known = c.loop-i.invariant in
    record { first = law.chunks_end_a _ _ _ c.loop-i-test.false known.3; second = law.chunks_end_b _ _ _ _ c.loop-i-test.false known.4 }
