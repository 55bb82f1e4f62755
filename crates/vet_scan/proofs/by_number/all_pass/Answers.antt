use Rattle.std.proofs.Common.{sym, arith, below_more}
use Rattle.search.proofs.SearchLaws.{all_intro, all_off}
use Rattle.vet_scan.proofs.by_number.all_pass.Goals as goal

pub returns-then-not-passes : goal.returns-then-not-passes
returns-then-not-passes g c =
    λ p computes. sym (all_off p _ _ c.loop-k-test.true (sym (computes _ _ c.loop-k-test.true c.if-not-passes.ensures)))

pub loop-k-preserved : goal.loop-k-preserved
loop-k-preserved g c =
    λ p computes. below_more _ _ (c.loop-k.invariant p computes) (sym (computes _ _ (omega arith) c.if-not-passes.ensures))

pub returns : goal.returns
returns g c =
    λ p computes. sym (all_intro p _ (λ j h. c.loop-k.invariant p computes j (omega arith)))
