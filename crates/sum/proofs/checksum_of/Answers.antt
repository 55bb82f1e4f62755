-- Few bytes are added up one by one, more of them in chunks.
use mathlib.Core.Path.{◌∙◌}
use native.Mathlib.Omega.{arith}
use Rattle.checksum.proofs.SumLaws as law
use Rattle.sum.proofs.checksum_of.Goals as goal

pub combined-requires : goal.combined-requires
combined-requires c =
    law.both_lt c.args.s.now _ _ _ _ (omega arith) (omega arith) c.after_bytes.ensures.first c.after_bytes.ensures.second

pub returns-then-s-lt-SHORT : goal.returns-then-s-lt-SHORT
returns-then-s-lt-SHORT c =
    let sums = c.after_bytes.ensures in
    c.combined.ensures ∙ law.combined c.args.s.now _ _ _ _ (omega arith) (omega arith) sums.first sums.second

pub combined-requires-2 : goal.combined-requires-2
combined-requires-2 c =
    law.both_lt c.args.s.now _ _ _ _ (omega arith) (omega arith) c.after_chunks.ensures.first c.after_chunks.ensures.second

pub returns : goal.returns
returns c =
    let sums = c.after_chunks.ensures in
    c.combined-2.ensures ∙ law.combined c.args.s.now _ _ _ _ (omega arith) (omega arith) sums.first sums.second
