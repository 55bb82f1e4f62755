-- Without witnesses demand 3 supposes what document 01 says.
use Prim.Native.Nat.{ℕ, ◌≤◌, ◌<◌}
use mathlib.Core.Path.{◌≡◌, sym, subst, fun_ext}
use mathlib.Core.Bool.{Bool, true, false, not, ◌&&◌}
use native.Mathlib.Omega.{arith}
use native.Mathlib.Decide.{dec_lt}
use Rattle.search.specs.Search.{lowest, count}
use Rattle.search.proofs.SearchLaws.{lowest_le, lowest_passes, below_lowest}
use Rattle.search.proofs.CountLaws.{count_none}
use Rattle.slices.specs.Parts.{Bytes}
use Rattle.slices.specs.Same.{same}
use Rattle.slices.proofs.SameLaws.{and_left, and_right, same_true}
use Rattle.record.proofs.LayoutLaws.{no_witness}
use Rattle.image.specs.Cluster.{Cluster}
use Rattle.planner.specs.Setting.{Setting, witness}
use Rattle.planner.specs.Rules.{majority}
use Rattle.demand3.specs.Supposed.{History, card_left, Agree, held, committed, OnCard, Supposed}
use Rattle.demand3.specs.Before.{Flight, card_before, card_damage, history_of, DamagedCluster}
use Rattle.demand3.specs.Cards.{AgreeCards, SupposedCards, DamagedCards}

-- ---- what is committed on a card
committed_held : (i e : ℕ) (p : Bytes) (h : History) → committed false i e p h ≡ true → held i e h ≡ true
unfolding committed
committed_held i e p h x = and_left (held i e h) (same (h.payload i) p && not (h.in_flight i)) x

committed_payload : (i e : ℕ) (p : Bytes) (h : History) → committed false i e p h ≡ true → h.payload i ≡ p
unfolding committed
committed_payload i e p h x =
    same_true (h.payload i) p
    (and_left (same (h.payload i) p) (not (h.in_flight i)) (and_right (held i e h) (same (h.payload i) p && not (h.in_flight i)) x))

majority_some : (n : ℕ) → 1 ≤ majority n
unfolding majority
majority_some n = omega arith

some_passes : (p : ℕ → Bool) (b : ℕ) → 1 ≤ count p b → lowest p b < b
some_passes p b h = go (dec_lt (lowest p b) b)
  where
    go : Dec (lowest p b < b) → lowest p b < b
    go (yes l) = l
    go (no l) = absurd (omega (arith, count_none p b (λ k x. below_lowest p b k (omega arith)), lowest_le p b))

module _ (S : Setting) (none : S.shape.witnesses ≡ 0) where
  card : (c : ℕ) → witness S c ≡ false
  card c = no_witness S.shape none _

  agree_cards : (H : ℕ → History) → AgreeCards S.shape.n H → Agree S H
  unfolding Agree AgreeCards
  agree_cards H a c d i cn dn x y e = rw (card c, card d) (a c d i cn dn x y e)

  -- who is committed is so on a card
  committed_cards : (i e : ℕ) (p : Bytes) (H : ℕ → History) → majority S.shape.n ≤ count (λ c. committed false i e p (H c)) S.shape.n
      → majority S.shape.n ≤ count (λ c. committed (witness S c) i e p (H c)) S.shape.n
  committed_cards i e p H h =
      subst (λ (t : ℕ → Bool). majority S.shape.n ≤ count (λ c. committed (t c) i e p (H c)) S.shape.n) (fun_ext (λ c. sym (card c))) h

  pub on_card_lem : (i e : ℕ) (p : Bytes) (H : ℕ → History) → majority S.shape.n ≤ count (λ c. committed false i e p (H c)) S.shape.n → OnCard S H i e p
  on_card_lem i e p H h =
      let d = lowest (λ d. committed false i e p (H d)) S.shape.n in
      let dn = some_passes (λ d. committed false i e p (H d)) S.shape.n (omega (arith, h, majority_some S.shape.n)) in
      let t = lowest_passes (λ d. committed false i e p (H d)) S.shape.n dn in
      record { replica = d; below = dn; card = card d; there = committed_held i e p (H d) t; payload = committed_payload i e p (H d) t }

  pub supposed_cards : (F : Cluster) (H : ℕ → History) (i e : ℕ) (p : Bytes) → SupposedCards S F H i e p → Supposed S F H i e p
  supposed_cards F H i e p s = record {
    headers = s.headers;
    damaged = λ c cn. rw (card c) (card_left (s.damaged c cn));
    agree = agree_cards H s.agree;
    on_majority = committed_cards i e p H s.on_majority;
    on_card = on_card_lem i e p H s.on_majority;
    leader_held = s.leader_held;
  }

  pub damaged_cards : (F : Cluster) (f : ℕ → Flight) (G : Cluster) (j e : ℕ) (p : Bytes) → DamagedCards S F f G j e p → DamagedCluster S F f G j e p
  damaged_cards F f G j e p s =
      let H : ℕ → History = λ c. history_of S.shape.m (f c) (F c) in
      record {
        before = λ c cn. rw (card c) (card_before (s.before c cn));
        damage = λ c cn. rw (card c) (card_damage (s.damage c cn));
        agree = agree_cards H s.agree;
        on_majority = committed_cards j e p H s.on_majority;
        on_card = on_card_lem j e p H s.on_majority;
        leader_held = s.leader_held;
      }
