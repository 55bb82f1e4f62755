-- `next_store` asks the followers from the last one on, or plans again from the survey.
use Rattle.std.proofs.Common.{arith}
use Rattle.planner.specs.Setting.{setting_of}
use Rattle.protocol.specs.Call.{named}
use Rattle.recovery.specs.Answers.{numbers}
use Rattle.recovery.proofs.OutlookLaws.{sees, in_range, end_fits}
use Rattle.recovery.proofs.ReadySurveyLaws.{shows_next, shows_follower}
use Rattle.run.proofs.next_store.Goals as goal

pub followers_store-requires : goal.followers_store-requires
followers_store-requires c =
    let v = c.requires.0.is in
    (in_range _ _ v.accepts v.sees, omega arith)

pub returns-then-c-leader : goal.returns-then-c-leader
unfolding setting_of
returns-then-c-leader c =
    λ leading present v rest.
    let N = numbers c.args.shape leading present in
    let w = rest (λ e. omega arith) in
    shows_follower N _ v w (c.followers_store.ensures (named N) (sees N _ v.accepts v.sees) w.followers_rest)

pub first_store-requires : goal.first_store-requires
first_store-requires c =
    let v = c.requires.0 in
    let N = numbers c.args.shape v.leading v.present in
    (in_range _ _ v.is.accepts v.is.sees, end_fits N _ v.is.accepts v.is.sees (c.plan_survey-plan.ensures (named N) _ v.is.sees))

pub returns : goal.returns
returns c =
    λ leading present v rest.
    let N = numbers c.args.shape leading present in
    shows_next N _ v (c.first_store.ensures (named N) (sees N _ v.accepts v.sees) (c.plan_survey-plan.ensures (named N) _ v.sees))
