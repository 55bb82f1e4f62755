use mathlib.Core.Path.{sym, ◌∙◌}
use native.Mathlib.Omega.{arith}
use Rattle.checksum.proofs.SumLaws as law
use Rattle.sum.proofs.after_bytes.Goals as goal

pub loop-byte-preserved : goal.loop-byte-preserved
loop-byte-preserved c =
    let byte = c.type_inv.s c.loop-byte.byte-index in
    let known = c.loop-byte.invariant in (
      omega (arith, byte),
      omega (arith, byte),
      sym (law.chunk_step_a _ _ _ c.loop-byte-test.true) ∙ known.2,
      sym (law.chunk_step_b _ _ _ _ c.loop-byte-test.true) ∙ known.3,
    )

pub returns : goal.returns
returns c =
    let known = c.loop-byte.invariant in
    let end = c.loop-byte-test.false in
    record { first = c.reduce.ensures ∙ sym (law.chunk_end_a _ _ _ end) ∙ known.2; second = c.reduce-2.ensures ∙ sym (law.chunk_end_b _ _ _ _ end) ∙ known.3 }
