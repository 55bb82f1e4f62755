-- Each store that the leader was due leaves it less work.
use mathlib.Core.Path.{◌≡◌, ap}
use mathlib.Core.Bool.{true, false, not}
use Prim.Native.Nat.{ℕ, ◌≤◌, ◌<◌}
use native.Mathlib.Omega.{arith}
use native.Mathlib.Decide.{ℕ_discrete}
use Rattle.search.specs.Search.{count}
use Rattle.search.proofs.CountLaws.{sum_lt, count_cong, count_lt, count_none}
use Rattle.image.specs.Cluster.{Cluster}
use Rattle.image.specs.declared.condition.Condition.{Condition}
use Rattle.planner.specs.Setting.{Setting, witness, views_of}
use Rattle.planner.specs.Rules.{end}
use Rattle.protocol.proofs.LeaderDue.{LeaderDone}
use Rattle.protocol.proofs.Slots.{leader_whole}
use Rattle.protocol.proofs.Effects.{is_complete, Blanked, Mended}
use Rattle.protocol.proofs.Work.{incomplete, leader_work, weight, work, weight_bound, weight_leader, weight_busy}

pub leader_falls : (S : Setting) (F G : Cluster) → S.leader < S.shape.n → leader_work S (views_of S G) < leader_work S (views_of S F) → work S G < work S F
unfolding work
leader_falls S F G ok h = sum_lt (weight S G) (weight S F) S.shape.n S.leader ok (λ c l. go c (ℕ_discrete c S.leader)) (rw (weight_leader S F, weight_leader S G) h)
  where
    go : (c : ℕ) → Dec (c ≡ S.leader) → weight S G c ≤ weight S F c
    go c (yes q) = rw (q, weight_leader S F, weight_leader S G) (omega arith)
    go c (no q) = rw (weight_busy S F c q (omega arith)) (weight_bound S G c)

pub blanked_falls : (S : Setting) (F G : Cluster) (l : ℕ) → Blanked l (views_of S F S.leader) (views_of S G S.leader) → end S (views_of S F) ≤ l → end S (views_of S G) ≡ end S (views_of S F)
    → leader_work S (views_of S G) < leader_work S (views_of S F)
unfolding leader_work incomplete
blanked_falls S F G l t h e =
    let n : count (incomplete (views_of S G S.leader)) (end S (views_of S F)) ≡ count (incomplete (views_of S F S.leader)) (end S (views_of S F)) =
    count_cong (incomplete (views_of S G S.leader)) (incomplete (views_of S F S.leader)) (end S (views_of S F)) (λ k b. ap (λ (d : Condition). not (is_complete d)) (t.conditions k (omega arith))) in
    rw (e, t.is, t.was) (omega arith)

pub mended_falls : (S : Setting) (F G : Cluster) (k : ℕ) → Mended k (views_of S F S.leader) (views_of S G S.leader) → k < end S (views_of S F) → is_complete ((views_of S F S.leader).condition k) ≡ false
    → end S (views_of S G) ≡ end S (views_of S F) → leader_work S (views_of S G) < leader_work S (views_of S F)
unfolding leader_work incomplete is_complete
mended_falls S F G k t h u e =
    let n : count (incomplete (views_of S G S.leader)) (end S (views_of S F)) < count (incomplete (views_of S F S.leader)) (end S (views_of S F)) =
    count_lt (incomplete (views_of S G S.leader)) (incomplete (views_of S F S.leader)) (end S (views_of S F)) k h (λ j q. ap (λ (d : Condition). not (is_complete d)) (t.conditions j q)) (rw t.whole) (rw u) in
    rw (e, t.lengths) (omega arith)

pub leader_idle : (S : Setting) (F : Cluster) → witness S S.leader ≡ false → (views_of S F S.leader).readable ≡ true → LeaderDone S (views_of S F) → leader_work S (views_of S F) ≡ 0
unfolding leader_work incomplete is_complete
leader_idle S F card ok d =
    let z : count (incomplete (views_of S F S.leader)) (end S (views_of S F)) ≡ 0 =
    count_none (incomplete (views_of S F S.leader)) (end S (views_of S F)) (λ k h. rw (leader_whole S F card ok d k (omega (arith, d.untruncated, h)))) in
    omega (arith, d.untruncated, z)
