-- The store that is due, with what the laws need to know of it: `due_facts`.
use mathlib.Core.Path.{◌≡◌, refl}
use mathlib.Core.Option.{none, some}
use Prim.Native.Nat.{ℕ}
use native.Mathlib.Omega.{arith}
use Rattle.image.specs.Cluster.{Cluster}
use Rattle.planner.specs.Setting.{Setting, views_of}
use Rattle.planner.specs.Rules.{answer, Answer, Ready, Waiting, Refused}
use Rattle.protocol.specs.Store.{Store}
use Rattle.protocol.specs.Recovery.{◌or◌, leader_store, followers_store, if_ready, next}
use Rattle.protocol.proofs.ChainLaws.{or_elim}
use Rattle.protocol.proofs.ReadyPlan.{ReadyPlan, ready_facts}
use Rattle.protocol.proofs.LeaderDue.{leader_done, LeaderDue, leader_due}
use Rattle.protocol.proofs.FollowerDue.{FollowerDue, followers_due}

pub data Due (S : Setting) (F : Cluster) (s : Store) : Type 0 where
  by_leader : leader_store S (views_of S F) ≡ some s → LeaderDue S F s → Due S F s
  by_follower : leader_store S (views_of S F) ≡ none → followers_store S F ≡ some s → FollowerDue S F s → Due S F s

-- a store is due only from a ready plan
pub record Outstanding (S : Setting) (F : Cluster) (s : Store) : Type 0 where
  pub plan : ReadyPlan S (views_of S F)
  pub is_due : Due S F s

pub due_facts : (S : Setting) (F : Cluster) (s : Store) → next S F ≡ some s → Outstanding S F s
unfolding next if_ready
due_facts S F s e = go (answer S (views_of S F)) refl e
  where
    go : (a : Answer) → answer S (views_of S F) ≡ a → if_ready a (leader_store S (views_of S F) or followers_store S F) ≡ some s → Outstanding S F s
    go Refused p e = absurd (let z : ◌≡◌ {A = ℕ} 0 1 = cc in omega arith)
    go (Waiting k) p e = absurd (let z : ◌≡◌ {A = ℕ} 0 1 = cc in omega arith)
    go (Ready l) p e =
        let r = ready_facts S (views_of S F) l p in
        record { plan = r; is_due = or_elim (leader_store S (views_of S F)) (followers_store S F) s e (λ q. by_leader q (leader_due S F s q)) (λ z q. by_follower z q (followers_due S F s (leader_done S (views_of S F) r z) q)) }
