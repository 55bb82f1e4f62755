-- The work falls with each store that was due (`work_falls`).
use mathlib.Core.Path.{◌≡◌, sym}
use mathlib.Core.Bool.{true}
use Prim.Native.Nat.{ℕ, ◌≤◌, ◌<◌}
use native.Mathlib.Omega.{arith}
use native.Mathlib.Decide.{ℕ_discrete}
use Rattle.search.proofs.CountLaws.{sum_lt}
use Rattle.image.specs.Cluster.{Cluster}
use Rattle.planner.specs.Setting.{Setting, views_of}
use Rattle.planner.specs.Rules.{answers}
use Rattle.protocol.specs.Recovery.{unlike}
use Rattle.protocol.proofs.ReadyPlan.{ReadyPlan}
use Rattle.protocol.proofs.LeaderDue.{LeaderDone}
use Rattle.protocol.proofs.Slots.{answers_other}
use Rattle.protocol.proofs.Moves.{Off, Move, leader_blanked, leader_mended, follower_blanked, follower_mended, follower_filled, follower_appended}
use Rattle.protocol.proofs.PlanLaws.{same_plan, off_views, follower_done}
use Rattle.protocol.proofs.Work.{leader_work, follower_work, weight, work, weight_leader, weight_idle}
use Rattle.protocol.proofs.LeaderWork.{leader_falls, blanked_falls, mended_falls, leader_idle}
use Rattle.protocol.proofs.FollowerWork.{follower_off, blanked_work, mended_work, filled_work, appended_work}

pub unlike_off : (S : Setting) (F G : Cluster) (c : ℕ) → G c ≡ F c → G S.leader ≡ F S.leader → unlike S G c ≡ unlike S F c
unfolding unlike views_of
unlike_off S F G c p q = rw (p, q)

follower_falls : (S : Setting) (F G : Cluster) (c : ℕ) → ReadyPlan S (views_of S F) → LeaderDone S (views_of S F) → c < S.shape.n → answers S (views_of S F) c ≡ true → Off c F G
    → follower_work S (views_of S G) (unlike S G c) c < follower_work S (views_of S F) (unlike S F c) c → work S G < work S F
unfolding work
follower_falls S F G c r ld cn an off h =
    sum_lt (weight S G) (weight S F) S.shape.n c cn (λ d l. go d (ℕ_discrete d S.leader) (ℕ_discrete d c)) (rw (weight_idle S F c other idle, weight_idle S G c other idle') h)
  where
    other : c ≡ S.leader → ⊥
    other = answers_other S (views_of S F) c an

    idle : leader_work S (views_of S F) ≡ 0
    idle = leader_idle S F r.card r.leader ld

    here : views_of S G S.leader ≡ views_of S F S.leader
    here = off_views S F G c off S.leader (λ q. other (sym q))

    idle' : leader_work S (views_of S G) ≡ 0
    idle' = leader_idle S G r.card (rw here r.leader) (follower_done S (views_of S F) (views_of S G) here ld)

    go : (d : ℕ) → Dec (d ≡ S.leader) → Dec (d ≡ c) → weight S G d ≤ weight S F d
    go d (yes q) e = rw (q, weight_leader S F, weight_leader S G) (omega (arith, idle, idle'))
    go d (no q) (yes e) = rw (e, weight_idle S F c other idle, weight_idle S G c other idle') (omega arith)
    go d (no q) (no e) =
        rw (weight_idle S F d q idle, weight_idle S G d q idle', unlike_off S F G d (off d e) (off S.leader (λ q. other (sym q))), follower_off S (views_of S F) (views_of S G) (unlike S F d) d (off_views S F G c off d e) here)
        (omega arith)

leader_off : (S : Setting) (F G : Cluster) (c : ℕ) → answers S (views_of S F) c ≡ true → Off c F G → views_of S G S.leader ≡ views_of S F S.leader
leader_off S F G c an off = off_views S F G c off S.leader (λ q. answers_other S (views_of S F) c an (sym q))

pub work_falls : (S : Setting) (F G : Cluster) → S.leader < S.shape.n → ReadyPlan S (views_of S F) → Move S F G → work S G < work S F
work_falls S F G ok r (leader_blanked l off t h) = leader_falls S F G ok (blanked_falls S F G l t h (same_plan S F G r (leader_blanked l off t h)).ends)
work_falls S F G ok r (leader_mended k off t h full x y u) = leader_falls S F G ok (mended_falls S F G k t h u (same_plan S F G r (leader_mended k off t h full x y u)).ends)
work_falls S F G ok r (follower_blanked c l ld cn an off t h) =
    follower_falls S F G c r ld cn an off (blanked_work S (views_of S F) (views_of S G) c (leader_off S F G c an off) l (unlike S F c) (unlike S G c) t h)
work_falls S F G ok r (follower_mended c k ld cn an off t h full u w) =
    follower_falls S F G c r ld cn an off (rw w (mended_work S (views_of S F) (views_of S G) c (leader_off S F G c an off) k (unlike S F c) t h u))
work_falls S F G ok r (follower_filled c ld cn an off t full h u v) =
    follower_falls S F G c r ld cn an off (rw (u, v) (filled_work S (views_of S F) (views_of S G) c (leader_off S F G c an off) t full h))
work_falls S F G ok r (follower_appended c ld cn an off t full h u) =
    follower_falls S F G c r ld cn an off (rw u (appended_work S (views_of S F) (views_of S G) c (leader_off S F G c an off) (unlike S G c) t full h))
