-- `unused_verdict` looks at the entry of the first unused slot alone.
use Rattle.image.proofs.VerdictSteps.{unused_beyond, unused_fresh, unused_unfinished}
use Rattle.read_verdicts.proofs.unused_verdict.Goals.{then-k-used-via-then-k-used, then-k-used-via-else-k-used+then-is_fresh}
use Rattle.read_verdicts.proofs.unused_verdict.Goals as goal

pub returns-then-k-used : goal.returns-then-k-used
returns-then-k-used c =
    elim c.then-k-used.branch [
      | then-k-used-via-then-k-used w ↦ λ i n card. unused_beyond _ _ _ w.if-k-used.true
      | then-k-used-via-else-k-used+then-is_fresh w ↦ λ i n card. unused_fresh _ _ _ (w.is_fresh.ensures i n card) w.if-is_fresh.true
    ]

pub returns : goal.returns
returns c =
    λ i n card. unused_unfinished _ _ _ (c.is_fresh.ensures i n card) c.if-k-used.false c.if-is_fresh.false
