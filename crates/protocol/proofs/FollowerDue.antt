-- The follower's store that is due, once the leader has none left.
use mathlib.Core.Path.{◌≡◌, refl, subst}
use mathlib.Core.Bool.{Bool, true, false, cond}
use mathlib.Core.Option.{none, some}
use Prim.Native.Nat.{ℕ, suc, ◌≤◌, ◌<◌, pred}
use native.Mathlib.Omega.{arith}
use lib.Dec.{ltb}
use borrow.Author.Tests.{ltb-true}
use Rattle.search.specs.Search.{lowest}
use Rattle.search.proofs.SearchLaws.{lowest_le, lowest_passes}
use Rattle.image.specs.Cluster.{Cluster}
use Rattle.image.specs.View.{View}
use Rattle.planner.specs.Setting.{Setting, views_of}
use Rattle.planner.specs.Rules.{is_faulty, is_record_lost, answers}
use Rattle.protocol.specs.Store.{Store, store_entry, store_record, store_blank}
use Rattle.protocol.specs.Recovery.{differs, first_differing, follower_store, is_some, unlike, due, first_of, followers_store}
use Rattle.protocol.proofs.ChainLaws.{or_elim, below_elim, below_none}
use Rattle.protocol.proofs.LeaderDue.{LeaderDone}

pub data FollowerDue (S : Setting) (F : Cluster) : Store → Type 0 where
  follower_blank : (c : ℕ) → LeaderDone S (views_of S F) → c < S.shape.n → answers S (views_of S F) c ≡ true
      → (l : ℕ) → (views_of S F c).length ≡ suc l → first_differing S (views_of S F) c ≤ l → FollowerDue S F (store_blank c l)
  follower_mend : (c : ℕ) → LeaderDone S (views_of S F) → c < S.shape.n → answers S (views_of S F) c ≡ true → first_differing S (views_of S F) c ≡ (views_of S F c).length
      → (k : ℕ) → k < first_differing S (views_of S F) c → is_faulty ((views_of S F c).condition k) ≡ true → FollowerDue S F (store_entry c k S.leader)
  follower_write : (c : ℕ) → LeaderDone S (views_of S F) → c < S.shape.n → answers S (views_of S F) c ≡ true → first_differing S (views_of S F) c ≡ (views_of S F c).length
      → (k : ℕ) → k < first_differing S (views_of S F) c → is_record_lost ((views_of S F c).condition k) ≡ true → FollowerDue S F (store_record c k ((views_of S F c).epoch k))
  follower_fill : (c : ℕ) → LeaderDone S (views_of S F) → c < S.shape.n → answers S (views_of S F) c ≡ true → first_differing S (views_of S F) c ≡ (views_of S F c).length
      → (views_of S F c).length < (views_of S F S.leader).length → unlike S F c ≡ true → FollowerDue S F (store_entry c (views_of S F c).length S.leader)
  follower_append : (c : ℕ) → LeaderDone S (views_of S F) → c < S.shape.n → answers S (views_of S F) c ≡ true → first_differing S (views_of S F) c ≡ (views_of S F c).length
      → (views_of S F c).length < (views_of S F S.leader).length → unlike S F c ≡ false
      → FollowerDue S F (store_record c (views_of S F c).length ((views_of S F S.leader).epoch (views_of S F c).length))

follower_due : (S : Setting) (F : Cluster) (c : ℕ) (s : Store) → LeaderDone S (views_of S F) → c < S.shape.n → answers S (views_of S F) c ≡ true
    → follower_store S (views_of S F) (unlike S F c) c ≡ some s → FollowerDue S F s
unfolding follower_store first_differing
follower_due S F c s ld cn an e =
    or_elim _ _ s e
    (λ p. below_elim d len _ s p (λ h q. subst (FollowerDue S F) q (follower_blank c ld cn an (pred len) (omega arith) (omega arith))))
    (λ z p. let full : d ≡ len = omega (arith, below_none d len _ z, lowest_le (differs S W c) len) in
    or_elim _ _ s p
    (λ p. below_elim fault d _ s p (λ h q. subst (FollowerDue S F) q (follower_mend c ld cn an full fault h (lowest_passes (λ k. is_faulty ((W c).condition k)) d h))))
    (λ y p. or_elim _ _ s p
    (λ p. below_elim lost d _ s p (λ h q. subst (FollowerDue S F) q (follower_write c ld cn an full lost h (lowest_passes (λ k. is_record_lost ((W c).condition k)) d h))))
    (λ x p. below_elim len (W S.leader).length _ s p (λ h q. subst (FollowerDue S F) q (last full h (unlike S F c) refl)))))
  where
    W : ℕ → View
    W = views_of S F

    len : ℕ
    len = (W c).length

    d : ℕ
    d = first_differing S W c

    fault : ℕ
    fault = lowest (λ k. is_faulty ((W c).condition k)) d

    lost : ℕ
    lost = lowest (λ k. is_record_lost ((W c).condition k)) d

    last : d ≡ len → len < (W S.leader).length → (u : Bool) → unlike S F c ≡ u → FollowerDue S F (cond u (store_entry c len S.leader) (store_record c len ((W S.leader).epoch len)))
    last full h true q = follower_fill c ld cn an full h q
    last full h false q = follower_append c ld cn an full h q

pub followers_due : (S : Setting) (F : Cluster) (s : Store) → LeaderDone S (views_of S F) → followers_store S F ≡ some s → FollowerDue S F s
unfolding followers_store first_of due
followers_due S F s ld e = go (ltb first S.shape.n) refl e
  where
    first : ℕ
    first = lowest (λ c. is_some (due S F c)) S.shape.n

    at_first : first < S.shape.n → (a : Bool) → answers S (views_of S F) first ≡ a
        → cond a (follower_store S (views_of S F) (unlike S F first) first) none ≡ some s → FollowerDue S F s
    at_first h true p e = follower_due S F first s ld h p e
    at_first h false p e = absurd (let z : ◌≡◌ {A = ℕ} 0 1 = cc in omega arith)

    go : (v : Bool) → ltb first S.shape.n ≡ v → cond v (due S F first) none ≡ some s → FollowerDue S F s
    go true p e = at_first (ltb-true first S.shape.n p) (answers S (views_of S F) first) refl e
    go false p e = absurd (let z : ◌≡◌ {A = ℕ} 0 1 = cc in omega arith)
