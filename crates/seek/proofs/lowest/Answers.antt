use Rattle.std.proofs.Common.{sym, arith, below_more}
use Rattle.search.proofs.SearchLaws.{lowest_is}
use Rattle.seek.proofs.lowest.Goals as goal

pub returns-then-passes : goal.returns-then-passes
returns-then-passes g c =
    λ p computes. sym (lowest_is p _ _ (omega arith) (c.loop-k.invariant p computes) (λ h. sym (computes _ _ h c.if-passes.ensures)))

pub loop-k-preserved : goal.loop-k-preserved
loop-k-preserved g c =
    λ p computes. below_more _ _ (c.loop-k.invariant p computes) (sym (computes _ _ (omega arith) c.if-passes.ensures))

pub returns : goal.returns
returns g c =
    λ p computes. sym (lowest_is p _ _ (omega arith) (λ j h. c.loop-k.invariant p computes j (omega arith)) (λ h. absurd (omega arith)))
