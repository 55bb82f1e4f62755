-- `leader_store` tries the leader's stores in their order.
use mathlib.Core.Path.{refl}
use borrow.Author.Tests.{ltb-true}
use Rattle.recovery.proofs.FollowerLaws.{looked_leader}
use Rattle.recovery.proofs.LookLaws.{found_passes}
use Rattle.recovery.proofs.LeaderStoreLaws.{leader_blanks, leader_fetches, leader_rewrites, leader_rests}
use native.Mathlib.Omega.{arith}
use Rattle.pick_leader.proofs.leader_store.Goals as goal

pub returns-then-end-length : goal.returns-then-end-length
returns-then-end-length c =
    λ S W n s p. leader_blanks S W _ s.leader_is _ _ _ _ _ _ (looked_leader s refl) p _ (omega arith) (omega arith)

pub donor_in-requires : goal.donor_in-requires
donor_in-requires c =
    ltb-true _ _ (found_passes _ _ c.first_fetched-fetched.ensures c.if-fetched-end.true)

pub returns-then-fetched-end : goal.returns-then-fetched-end
returns-then-fetched-end c =
    λ S W n s p.
    leader_fetches S W _ s.leader_is _ _ _ _ _ _ (looked_leader s refl) p c.if-end-length.false _ _ c.first_fetched-fetched.ensures c.if-fetched-end.true c.donor_in.ensures

pub returns-then-lost-end : goal.returns-then-lost-end
returns-then-lost-end c =
    λ S W n s p.
    leader_rewrites S W _ s.leader_is _ _ _ _ _ _ (looked_leader s refl) p c.if-end-length.false _ c.first_fetched-fetched.ensures c.if-fetched-end.false _ c.first_with-lost.ensures c.if-lost-end.true

pub returns : goal.returns
returns c =
    λ S W n s p.
    leader_rests S W _ s.leader_is _ _ _ _ _ _ (looked_leader s refl) p c.if-end-length.false _ c.first_fetched-fetched.ensures c.if-fetched-end.false _ c.first_with-lost.ensures c.if-lost-end.false
