-- `missing_store` compares the entry of the first missing slot.
use mathlib.Core.Path.{sym, ◌∙◌}
use Rattle.planner.specs.Plan.{views_in}
use Rattle.protocol.specs.Recovery.{unlike}
use Rattle.recovery.specs.Look.{cluster_in}
use Rattle.recovery.proofs.FollowerLaws.{looked, looked_leader}
use Rattle.recovery.proofs.FollowerStoreLaws.{missing_none, missing_entry, missing_record}
use native.Mathlib.Omega.{arith}
use Rattle.pick_follower.proofs.missing_store.Goals as goal

pub returns-then-survey-leader : goal.returns-then-survey-leader
returns-then-survey-leader c =
    λ S v.
    let s = v.survey_is in
    let x = looked_leader s v.shape_is in
    let h = c.requires.replica_below in
    let y = looked s v.shape_is _ h (sym (s.surveyed.readable_is _ h) ∙ c.requires.replica_reads) in
    missing_none S (views_in S c.args.cluster.now) (unlike S (cluster_in S c.args.cluster.now) c.args.c) _ _ s.leader_is _ _ _ _ _ x y c.if-survey-leader.true

pub lacks_entry-requires : goal.lacks_entry-requires
lacks_entry-requires c =
    let r = c.requires.in_range in (c.requires, omega (arith, r.leader_fits))

pub returns-then-not-lacks_entry : goal.returns-then-not-lacks_entry
returns-then-not-lacks_entry c =
    λ S v.
    let s = v.survey_is in
    let x = looked_leader s v.shape_is in
    let h = c.requires.replica_below in
    let on = sym (s.surveyed.readable_is _ h) ∙ c.requires.replica_reads in
    let y = looked s v.shape_is _ h on in
    missing_record S (views_in S c.args.cluster.now) _ _ _ s.leader_is _ _ _ _ _ x y c.if-survey-leader.false (sym (c.lacks_entry.ensures S v y.length_is) ∙ c.if-not-lacks_entry.true)

pub returns : goal.returns
returns c =
    λ S v.
    let s = v.survey_is in
    let x = looked_leader s v.shape_is in
    let h = c.requires.replica_below in
    let on = sym (s.surveyed.readable_is _ h) ∙ c.requires.replica_reads in
    let y = looked s v.shape_is _ h on in
    missing_entry S (views_in S c.args.cluster.now) _ _ _ s.leader_is _ _ _ _ _ x y c.if-survey-leader.false (sym (c.lacks_entry.ensures S v y.length_is) ∙ c.if-not-lacks_entry.false)
