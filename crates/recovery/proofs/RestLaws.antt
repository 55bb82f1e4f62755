-- After a follower's store neither the leader nor a follower before it has one outstanding: `rests_after`.
use Prim.Native.Nat.{ℕ, ◌<◌, pred}
use mathlib.Core.Path.{◌≡◌, refl, sym, ap, ◌∙◌, fun_ext}
use mathlib.Core.Bool.{Bool, true, false, cond}
use mathlib.Core.Option.{Option, none, some}
use native.Mathlib.Omega.{arith}
use lib.Dec.{ltb}
use borrow.Author.Tests.{le-ltb}
use Rattle.search.specs.Search.{lowest}
use Rattle.search.proofs.SearchLaws.{lowest_is, below_lowest}
use Rattle.image.specs.Cluster.{Cluster}
use Rattle.image.specs.View.{View}
use Rattle.planner.specs.Setting.{Setting, views_of}
use Rattle.planner.specs.Rules.{is_faulty, is_record_lost, answers, is_fetch, is_truncate, rule, end}
use Rattle.protocol.specs.Store.{Store, store_entry, store_record, store_blank, store_replica}
use Rattle.protocol.specs.ClusterSteps.{after_store}
use Rattle.protocol.specs.Recovery.{◌or◌, if_below, leader_store, differs, first_differing, follower_store, is_some, unlike, due, first_of, followers_store, next}
use Rattle.protocol.proofs.Due.{Due, by_leader, by_follower, due_facts}
use Rattle.protocol.proofs.LeaderDue.{leader_blank, leader_fetch, leader_write}
use Rattle.protocol.proofs.ReadyPlan.{ReadyPlan}
use Rattle.protocol.proofs.LeaderDue.{LeaderDone, leader_done, LeaderDue}
use Rattle.protocol.proofs.ChainLaws.{or_elim, below_elim}
use Rattle.protocol.proofs.PlanLaws.{rule_keep_unfaulty, off_views}
use Rattle.protocol.proofs.Effects.{view}
use Rattle.protocol.proofs.Keeps.{stored_off}
use Rattle.recovery.specs.Look.{RestBelow}

-- ---- the leader

module _ (S : Setting) (W : ℕ → View) where
  leader_rests : LeaderDone S W → leader_store S W ≡ none
  unfolding leader_store if_below ◌or◌ is_fetch
  leader_rests d =
      let l = (W S.leader).length in
      let a : lowest (λ k. is_fetch (rule S W k)) (end S W) ≡ end S W =
      lowest_is (λ k. is_fetch (rule S W k)) (end S W) (end S W) (omega arith) (λ j h. ap is_fetch (rule_keep_unfaulty S W j (d.unfaulty j (omega (arith, d.untruncated))))) (λ h. absurd (omega arith)) in
      let b : lowest (λ k. is_record_lost ((W S.leader).condition k)) (end S W) ≡ end S W =
      lowest_is (λ k. is_record_lost ((W S.leader).condition k)) (end S W) (end S W) (omega arith) (λ j h. d.unlost j (omega (arith, d.untruncated))) (λ h. absurd (omega arith)) in
      rw (a, b, le-ltb (end S W) l (omega (arith, d.untruncated)), le-ltb (end S W) (end S W) (omega arith))

  done_same : (U : ℕ → View) → U S.leader ≡ W S.leader → LeaderDone S W → LeaderDone S U
  unfolding end is_truncate
  done_same U e d = record {
    untruncated = lowest_is (λ k. is_truncate (rule S U k)) (U S.leader).length (U S.leader).length (omega arith) (λ j h. ap is_truncate (rule_keep_unfaulty S U j (whole j h))) (λ h. absurd (omega arith));
    unfaulty = whole;
    unlost = rw e d.unlost;
  }
    where
      whole : (j : ℕ) → j < (U S.leader).length → is_faulty ((U S.leader).condition j) ≡ false
      whole = rw e d.unfaulty

-- ---- the followers

-- a follower's store, by its view, the leader's, and its first differing slot
abbrev chosen : ℕ → ℕ → Bool → View → View → ℕ → Option Store
chosen leader c other v w d =
    if_below d v.length (store_blank c (pred v.length))
    or if_below (lowest (λ k. is_faulty (v.condition k)) d) d (store_entry c (lowest (λ k. is_faulty (v.condition k)) d) leader)
    or if_below (lowest (λ k. is_record_lost (v.condition k)) d) d (store_record c (lowest (λ k. is_record_lost (v.condition k)) d) (v.epoch (lowest (λ k. is_record_lost (v.condition k)) d)))
    or if_below v.length w.length (cond other (store_entry c v.length leader) (store_record c v.length (w.epoch v.length)))

-- what c has to get is read off its image and the leader's
module _ (S : Setting) (W U : ℕ → View) (c : ℕ) (e : U c ≡ W c) (f : U S.leader ≡ W S.leader) where
  differs_same : differs S U c ≡ differs S W c
  unfolding differs
  differs_same = fun_ext (λ k. rw (e, f))

  differing_same : first_differing S U c ≡ first_differing S W c
  unfolding first_differing
  differing_same = rw (differs_same, e)

  follower_same : (other : Bool) → follower_store S U other c ≡ follower_store S W other c
  unfolding follower_store
  follower_same other = λ i. chosen S.leader c other (e i) (f i) (differing_same i)

  answers_same : answers S U c ≡ answers S W c
  unfolding answers
  answers_same = rw e

due_same : (S : Setting) (F G : Cluster) (c : ℕ) → G c ≡ F c → G S.leader ≡ F S.leader → due S G c ≡ due S F c
unfolding due unlike
due_same S F G c e f =
    let a : views_of S G c ≡ views_of S F c = unfold views_of in ap (view S c) e in
    let b : views_of S G S.leader ≡ views_of S F S.leader = unfold views_of in ap (view S S.leader) f in
    rw (answers_same S (views_of S F) (views_of S G) c a b, follower_same S (views_of S F) (views_of S G) c a b, a, e, f)

-- a follower's store is made on it
due_replica : (S : Setting) (F : Cluster) (c : ℕ) (s : Store) → due S F c ≡ some s → store_replica s ≡ c
unfolding due follower_store store_replica
due_replica S F c s e = go (answers S (views_of S F) c) e
  where
    W : ℕ → View
    W = views_of S F

    leader : ℕ
    leader = S.leader

    at : (k b : ℕ) (t : Store) → store_replica t ≡ c → if_below k b t ≡ some s → store_replica s ≡ c
    at k b t q p = below_elim k b t s p (λ h z. rw (← z) q)

    missing : (u : Bool) → store_replica (cond u (store_entry c (W c).length leader) (store_record c (W c).length ((W leader).epoch (W c).length))) ≡ c
    missing true = refl
    missing false = refl

    go : (a : Bool) → cond a (follower_store S W (unlike S F c) c) none ≡ some s → store_replica s ≡ c
    go true p = or_elim _ _ s p (at _ _ _ refl) (λ z p. or_elim _ _ s p (at _ _ _ refl) (λ y p. or_elim _ _ s p (at _ _ _ refl) (λ x p. at _ _ _ (missing (unlike S F c)) p)))
    go false p = absurd (let z : ◌≡◌ {A = ℕ} 0 1 = cc in omega arith)

-- those before the first that has a store have none
first_below : (S : Setting) (F : Cluster) (s : Store) → followers_store S F ≡ some s → (j : ℕ) → j < store_replica s → is_some (due S F j) ≡ false
unfolding followers_store first_of
first_below S F s e j h = go (ltb first S.shape.n) e
  where
    first : ℕ
    first = lowest (λ c. is_some (due S F c)) S.shape.n

    go : (v : Bool) → cond v (due S F first) none ≡ some s → is_some (due S F j) ≡ false
    go true p = below_lowest (λ c. is_some (due S F c)) S.shape.n j (omega (arith, due_replica S F first s p))
    go false p = absurd (let z : ◌≡◌ {A = ℕ} 0 1 = cc in omega arith)

-- ---- after the store

leader_made : (S : Setting) (F : Cluster) (s : Store) → LeaderDue S F s → store_replica s ≡ S.leader
unfolding store_replica
leader_made S F s (leader_blank l h e) = refl
leader_made S F s (leader_fetch k h full e) = refl
leader_made S F s (leader_write k h full e) = refl

pub rests_after : (S : Setting) (F : Cluster) (s : Store) → next S F ≡ some s → (store_replica s ≡ S.leader → ⊥) → RestBelow S (after_store s F) (store_replica s)
rests_after S F s x q = let o = due_facts S F s x in go o.is_due o.plan
  where
    go : Due S F s → ReadyPlan S (views_of S F) → RestBelow S (after_store s F) (store_replica s)
    go (by_leader e d) r = absurd (q (leader_made S F s d))
    go (by_follower e f d) r =
        let l = stored_off s F S.leader (λ z. q (sym z)) in
        let same = off_views S F (after_store s F) (store_replica s) (λ d z. stored_off s F d z) S.leader (λ z. q (sym z)) in
        record {
          leader_rests = leader_rests S (views_of S (after_store s F)) (done_same S (views_of S F) (views_of S (after_store s F)) same (leader_done S (views_of S F) r e));
          followers_rest = λ j h. ap is_some (due_same S F (after_store s F) j (stored_off s F j (λ z. omega arith)) l) ∙ first_below S F s f j h;
        }
