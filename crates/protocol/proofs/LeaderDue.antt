-- The leader's store that is due; when it has none left it is whole.
use mathlib.Core.Path.{◌≡◌, refl, sym, subst}
use mathlib.Core.Bool.{Bool, true, false, cond, true≢false}
use mathlib.Core.Option.{none, some}
use Prim.Native.Nat.{ℕ, suc, ◌≤◌, ◌<◌, pred}
use native.Mathlib.Omega.{arith}
use lib.Dec.{ltb}
use Rattle.search.specs.Search.{count, lowest}
use Rattle.search.proofs.SearchLaws.{lowest_le, lowest_passes, below_lowest}
use Rattle.image.specs.Cluster.{Cluster}
use Rattle.image.specs.View.{View}
use Rattle.planner.specs.Setting.{Setting, views_of}
use Rattle.planner.specs.Rules.{may_truncate, dont_have, is_faulty, is_record_lost, Rule, Keep, Fetch, Truncate, Wait, is_fetch, is_truncate, is_wait, rule, donor, end}
use Rattle.protocol.specs.Store.{Store, store_entry, store_record, store_blank}
use Rattle.protocol.specs.Recovery.{leader_store}
use Rattle.protocol.proofs.ChainLaws.{or_elim, or_none_l, or_none_r, below_elim, below_none}
use Rattle.protocol.proofs.ReadyPlan.{ReadyPlan}

-- ---- the leader has no store left
pub record LeaderDone (S : Setting) (W : ℕ → View) : Type 0 where
  pub untruncated : end S W ≡ (W S.leader).length
  pub unfaulty : (k : ℕ) → k < (W S.leader).length → is_faulty ((W S.leader).condition k) ≡ false
  pub unlost : (k : ℕ) → k < (W S.leader).length → is_record_lost ((W S.leader).condition k) ≡ false

-- a slot that is neither fetched, truncated nor waiting is not faulty
rule_keep : (S : Setting) (W : ℕ → View) (k : ℕ) → is_fetch (rule S W k) ≡ false → is_truncate (rule S W k) ≡ false → is_wait (rule S W k) ≡ false → is_faulty ((W S.leader).condition k) ≡ false
unfolding rule is_fetch is_truncate is_wait
rule_keep S W k f t w = go (is_faulty ((W S.leader).condition k)) (ltb (donor S W k) S.shape.n) (may_truncate S.shape.n (count (dont_have S W k) S.shape.n)) f t w
  where
    go : (a b d : Bool) → is_fetch (cond a (cond b Fetch (cond d Truncate Wait)) Keep) ≡ false → is_truncate (cond a (cond b Fetch (cond d Truncate Wait)) Keep) ≡ false
        → is_wait (cond a (cond b Fetch (cond d Truncate Wait)) Keep) ≡ false → a ≡ false
    go true true d f t w = f
    go true false true f t w = t
    go true false false f t w = w
    go false b d f t w = refl

pub leader_done : (S : Setting) (W : ℕ → View) → ReadyPlan S W → leader_store S W ≡ none → LeaderDone S W
unfolding leader_store end
leader_done S W r e =
    let fetch = lowest (λ k. is_fetch (rule S W k)) (end S W) in
    let lost = lowest (λ k. is_record_lost ((W S.leader).condition k)) (end S W) in
    let unblanked = or_none_r _ _ e in
    let a : (W S.leader).length ≤ end S W = below_none (end S W) (W S.leader).length _ (or_none_l _ _ e) in
    let b : end S W ≤ fetch = below_none fetch (end S W) _ (or_none_l _ _ unblanked) in
    let d : end S W ≤ lost = below_none lost (end S W) _ (or_none_r _ _ unblanked) in
    let u : end S W ≤ (W S.leader).length = lowest_le (λ k. is_truncate (rule S W k)) (W S.leader).length in
    record {
      untruncated = omega arith;
      unfaulty = λ k h. rule_keep S W k
          (below_lowest (λ k. is_fetch (rule S W k)) (end S W) k (omega arith))
          (below_lowest (λ k. is_truncate (rule S W k)) (W S.leader).length k (omega arith))
          (r.unstuck k (omega arith));
      unlost = λ k h. below_lowest (λ k. is_record_lost ((W S.leader).condition k)) (end S W) k (omega arith);
    }

pub data LeaderDue (S : Setting) (F : Cluster) : Store → Type 0 where
  leader_blank : (l : ℕ) → (views_of S F S.leader).length ≡ suc l → end S (views_of S F) ≤ l → LeaderDue S F (store_blank S.leader l)
  leader_fetch : (k : ℕ) → k < end S (views_of S F) → end S (views_of S F) ≡ (views_of S F S.leader).length → rule S (views_of S F) k ≡ Fetch
      → LeaderDue S F (store_entry S.leader k (donor S (views_of S F) k))
  leader_write : (k : ℕ) → k < end S (views_of S F) → end S (views_of S F) ≡ (views_of S F S.leader).length → is_record_lost ((views_of S F S.leader).condition k) ≡ true
      → LeaderDue S F (store_record S.leader k ((views_of S F S.leader).epoch k))

pub leader_due : (S : Setting) (F : Cluster) (s : Store) → leader_store S (views_of S F) ≡ some s → LeaderDue S F s
unfolding leader_store end is_fetch
leader_due S F s e =
    or_elim _ _ s e
    (λ p. below_elim (end S W) len _ s p (λ h q. subst (LeaderDue S F) q (leader_blank (pred len) (omega arith) (omega arith))))
    (λ z p. let full : end S W ≡ len = omega (arith, below_none (end S W) len _ z, lowest_le (λ k. is_truncate (rule S W k)) len) in
    or_elim _ _ s p
    (λ p. below_elim fetch (end S W) _ s p (λ h q. subst (LeaderDue S F) q (leader_fetch fetch h full (is_fetch_lem (rule S W fetch) (lowest_passes (λ k. is_fetch (rule S W k)) (end S W) h)))))
    (λ y p. below_elim lost (end S W) _ s p (λ h q. subst (LeaderDue S F) q (leader_write lost h full (lowest_passes (λ k. is_record_lost ((W S.leader).condition k)) (end S W) h)))))
  where
    W : ℕ → View
    W = views_of S F

    len : ℕ
    len = (W S.leader).length

    fetch : ℕ
    fetch = lowest (λ k. is_fetch (rule S W k)) (end S W)

    lost : ℕ
    lost = lowest (λ k. is_record_lost ((W S.leader).condition k)) (end S W)

    is_fetch_lem : (r : Rule) → is_fetch r ≡ true → r ≡ Fetch
    is_fetch_lem Keep e = absurd (true≢false (sym e))
    is_fetch_lem Fetch e = refl
    is_fetch_lem Truncate e = absurd (true≢false (sym e))
    is_fetch_lem Wait e = absurd (true≢false (sym e))
