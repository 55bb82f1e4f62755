-- The work that is left: at most 3 × n × m (`work_bound`).
use mathlib.Core.Path.{◌≡◌, refl}
use mathlib.Core.Bool.{Bool, true, false, cond, not}
use Prim.Native.Nat.{ℕ, ◌+◌, ◌-◌, ◌*◌, ◌≤◌, ◌<◌}
use native.Mathlib.Omega.{arith}
use lib.Dec.{eqb, ltb}
use borrow.Author.Tests.{eq-eqb, ne_eqb}
use Rattle.search.specs.Search.{count, sum}
use Rattle.search.proofs.SearchLaws.{lowest_le}
use Rattle.search.proofs.CountLaws.{sum_bound, count_le}
use Rattle.image.specs.Cluster.{Cluster}
use Rattle.image.specs.View.{View}
use Rattle.planner.specs.Setting.{Setting, views_of}
use Rattle.planner.specs.Rules.{end}
use Rattle.planner.proofs.RuleLaws.{end_le}
use Rattle.protocol.specs.Recovery.{differs, first_differing, unlike}
use Rattle.protocol.proofs.Slots.{leader_fits}
use Rattle.protocol.proofs.Effects.{is_complete}

unfoldable pub incomplete : View → ℕ → Bool
incomplete a k = not (is_complete (a.condition k))

module _ (S : Setting) (W : ℕ → View) where
  -- slots of the leader to be truncated, and slots that stay and are not whole
  unfoldable pub leader_work : ℕ
  leader_work = ((W S.leader).length - end S W) + count (incomplete (W S.leader)) (end S W)

  -- the entry of the first missing slot is there
  unfoldable pub credit : Bool → ℕ → ℕ
  credit u c = cond (ltb (first_differing S W c) (W c).length) 0 (cond (ltb (first_differing S W c) (W S.leader).length) (cond u 0 1) 0)

  -- slots of a follower to be truncated, slots that stay and are not whole, and two stores for each missing slot
  unfoldable pub follower_work : Bool → ℕ → ℕ
  follower_work u c = (((W c).length - first_differing S W c) + count (incomplete (W c)) (first_differing S W c) + 2 * ((W S.leader).length - first_differing S W c)) - credit u c

unfoldable pub weight : Setting → Cluster → ℕ → ℕ
weight S F c =
    cond (eqb c S.leader) (leader_work S (views_of S F))
    (cond (eqb (leader_work S (views_of S F)) 0) (follower_work S (views_of S F) (unlike S F c) c) (3 * S.shape.m))

unfoldable pub work : Setting → Cluster → ℕ
work S F = sum (weight S F) S.shape.n

differing_le : (S : Setting) (W : ℕ → View) (c : ℕ) → first_differing S W c ≤ (W c).length
unfolding first_differing
differing_le S W c = lowest_le (differs S W c) (W c).length

leader_bound : (S : Setting) (F : Cluster) → leader_work S (views_of S F) ≤ 3 * S.shape.m
unfolding leader_work
leader_bound S F = omega (arith, leader_fits S F S.leader, end_le S (views_of S F), count_le (incomplete (views_of S F S.leader)) (end S (views_of S F)))

follower_bound : (S : Setting) (F : Cluster) (u : Bool) (c : ℕ) → follower_work S (views_of S F) u c ≤ 3 * S.shape.m
unfolding follower_work
follower_bound S F u c = omega (arith, leader_fits S F S.leader, leader_fits S F c, differing_le S (views_of S F) c, count_le (incomplete (views_of S F c)) (first_differing S (views_of S F) c))

pub weight_bound : (S : Setting) (F : Cluster) (c : ℕ) → weight S F c ≤ 3 * S.shape.m
unfolding weight
weight_bound S F c = go (eqb c S.leader) (eqb (leader_work S (views_of S F)) 0)
  where
    go : (a b : Bool) → cond a (leader_work S (views_of S F)) (cond b (follower_work S (views_of S F) (unlike S F c) c) (3 * S.shape.m)) ≤ 3 * S.shape.m
    go true b = leader_bound S F
    go false true = follower_bound S F (unlike S F c) c
    go false false = omega arith

pub work_bound : (S : Setting) (F : Cluster) → work S F ≤ 3 * S.shape.n * S.shape.m
unfolding work
work_bound S F = omega (arith, sum_bound (weight S F) S.shape.n (3 * S.shape.m) (λ c h. weight_bound S F c))

-- ---- weights at their replicas
pub weight_leader : (S : Setting) (F : Cluster) → weight S F S.leader ≡ leader_work S (views_of S F)
unfolding weight
weight_leader S F = rw (eq-eqb S.leader S.leader refl)

pub weight_busy : (S : Setting) (F : Cluster) (c : ℕ) → (c ≡ S.leader → ⊥) → 0 < leader_work S (views_of S F) → weight S F c ≡ 3 * S.shape.m
unfolding weight
weight_busy S F c q h = rw (ne_eqb c S.leader q, ne_eqb (leader_work S (views_of S F)) 0 (omega arith))

pub weight_idle : (S : Setting) (F : Cluster) (c : ℕ) → (c ≡ S.leader → ⊥) → leader_work S (views_of S F) ≡ 0 → weight S F c ≡ follower_work S (views_of S F) (unlike S F c) c
unfolding weight
weight_idle S F c q h = rw (ne_eqb c S.leader q, eq-eqb (leader_work S (views_of S F)) 0 h)
