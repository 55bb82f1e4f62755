-- `follower_store` tries a follower's stores in their order.
use mathlib.Core.Path.{sym, ◌∙◌}
use Rattle.planner.specs.Plan.{views_in}
use Rattle.recovery.proofs.LookLaws.{found_within}
use Rattle.recovery.proofs.FollowerLaws.{looked, looked_leader}
use Rattle.recovery.proofs.FollowerStoreLaws.{follower_blanks, follower_mends, follower_rewrites, past_records}
use native.Mathlib.Omega.{arith}
use Rattle.pick_follower.proofs.follower_store.Goals as goal

pub first_differing-kept-requires : goal.first_differing-kept-requires
first_differing-kept-requires c =
    let f = c.requires.in_range.log_fits _ c.requires.replica_below c.requires.replica_reads in
    let r = c.requires.in_range in
    let h = c.requires.replica_below in
    (omega arith, omega arith, omega arith)

pub returns-then-kept-length : goal.returns-then-kept-length
returns-then-kept-length c =
    λ S v.
    let s = v.survey_is in
    let x = looked_leader s v.shape_is in
    let h = c.requires.replica_below in
    let y = looked s v.shape_is _ h (sym (s.surveyed.readable_is _ h) ∙ c.requires.replica_reads) in
    follower_blanks S (views_in S c.args.cluster.now) _ _ _ s.leader_is _ _ _ _ _ x y _ c.first_differing-kept.ensures c.if-kept-length.true

pub first_with-faulty-requires : goal.first_with-faulty-requires
first_with-faulty-requires c =
    let f = c.requires.in_range.log_fits _ c.requires.replica_below c.requires.replica_reads in
    let w = found_within _ _ c.first_differing-kept.ensures in
    let r = c.requires.in_range in
    let h = c.requires.replica_below in
    (omega arith, omega arith)

pub returns-then-faulty-kept : goal.returns-then-faulty-kept
returns-then-faulty-kept c =
    λ S v.
    let s = v.survey_is in
    let x = looked_leader s v.shape_is in
    let h = c.requires.replica_below in
    let y = looked s v.shape_is _ h (sym (s.surveyed.readable_is _ h) ∙ c.requires.replica_reads) in
    follower_mends S (views_in S c.args.cluster.now) _ _ _ s.leader_is _ _ _ _ _ x y _ c.first_differing-kept.ensures c.if-kept-length.false _ _ c.first_with-faulty.ensures c.if-faulty-kept.true (omega arith)

pub first_with-lost-requires : goal.first_with-lost-requires
first_with-lost-requires c =
    let f = c.requires.in_range.log_fits _ c.requires.replica_below c.requires.replica_reads in
    let w = found_within _ _ c.first_differing-kept.ensures in
    let r = c.requires.in_range in
    let h = c.requires.replica_below in
    (omega arith, omega arith)

pub overflow_add-result : goal.overflow_add-result
overflow_add-result c =
    let f = c.requires.in_range.log_fits _ c.requires.replica_below c.requires.replica_reads in
    let w = found_within _ _ c.first_differing-kept.ensures in
    omega arith

pub offset_bounds-survey-c-then-lost-kept : goal.offset_bounds-survey-c-then-lost-kept
offset_bounds-survey-c-then-lost-kept c =
    let f = c.requires.in_range.log_fits _ c.requires.replica_below c.requires.replica_reads in
    let w = found_within _ _ c.first_differing-kept.ensures in
    omega arith

pub bounds-survey-c-then-lost-kept : goal.bounds-survey-c-then-lost-kept
bounds-survey-c-then-lost-kept c =
    let f = c.requires.in_range.log_fits _ c.requires.replica_below c.requires.replica_reads in
    let w = found_within _ _ c.first_differing-kept.ensures in
    omega arith

pub returns-then-lost-kept : goal.returns-then-lost-kept
returns-then-lost-kept c =
    λ S v.
    let s = v.survey_is in
    let x = looked_leader s v.shape_is in
    let h = c.requires.replica_below in
    let y = looked s v.shape_is _ h (sym (s.surveyed.readable_is _ h) ∙ c.requires.replica_reads) in
    follower_rewrites S (views_in S c.args.cluster.now) _ _ _ s.leader_is _ _ _ _ _ x y _ c.first_differing-kept.ensures c.if-kept-length.false _ c.first_with-faulty.ensures c.if-faulty-kept.false _ c.first_with-lost.ensures c.if-lost-kept.true

pub returns : goal.returns
returns c =
    λ S v.
    let s = v.survey_is in
    let x = looked_leader s v.shape_is in
    let h = c.requires.replica_below in
    let y = looked s v.shape_is _ h (sym (s.surveyed.readable_is _ h) ∙ c.requires.replica_reads) in
    past_records S (views_in S c.args.cluster.now) _ _ _ s.leader_is _ _ _ _ _ x y _ c.first_differing-kept.ensures c.if-kept-length.false _ c.first_with-faulty.ensures c.if-faulty-kept.false _ c.first_with-lost.ensures c.if-lost-kept.false (c.missing_store.ensures S v)
