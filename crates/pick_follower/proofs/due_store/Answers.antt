-- `due_store` asks a follower that answers.
use mathlib.Core.Path.{sym, ◌∙◌}
use Rattle.recovery.proofs.FollowerLaws.{tested, due_leader, due_silent, due_answers}
use native.Mathlib.Omega.{arith}
use Rattle.pick_follower.proofs.due_store.Goals as goal

pub returns-then-c-leader : goal.returns-then-c-leader
returns-then-c-leader c =
    λ S v. due_leader S _ _ _ v.survey_is.leader_is c.if-c-leader.true

pub returns-then-not-contains : goal.returns-then-not-contains
returns-then-not-contains c =
    λ S v. due_silent S _ _ (sym (v.survey_is.surveyed.readable_is _ c.requires.1) ∙ tested _ c.args.c _ c.contains.ensures (omega arith) (c.if-not-contains.true))

pub follower_store-requires : goal.follower_store-requires
follower_store-requires c =
    record { in_range = c.requires.0; replica_below = c.requires.1; replica_reads = tested _ c.args.c _ c.contains.ensures (omega arith) (c.if-not-contains.false) }

pub returns : goal.returns
returns c =
    λ S v. due_answers S _ _ _ v.survey_is.leader_is c.if-c-leader.false (sym (v.survey_is.surveyed.readable_is _ c.requires.1) ∙ tested _ c.args.c _ c.contains.ensures (omega arith) (c.if-not-contains.false)) (c.follower_store.ensures S v)
