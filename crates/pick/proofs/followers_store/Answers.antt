use Rattle.std.proofs.Common.{sym, ◌∙◌}
use Rattle.recovery.proofs.FollowerLaws.{followers_found, followers_none}
use Rattle.pick.proofs.followers_store.Goals as goal

pub returns-then-is_outstanding : goal.returns-then-is_outstanding
returns-then-is_outstanding c =
    λ S v rest. followers_found S _ _ v.survey_is.n_is _ c.loop-c-test.true (c.loop-c.invariant S v rest) (c.due_store-store.ensures S v) (sym c.is_outstanding.ensures ∙ c.if-is_outstanding.true)

pub returns : goal.returns
returns c =
    λ S v rest. followers_none S _ _ v.survey_is.n_is _ c.loop-c-test.false (c.loop-c.invariant S v rest)
