-- An interrupted store is due again, and made over the torn bytes it leaves what it would have left (`torn_law`).
use mathlib.Core.Path.{◌≡◌, sym, ap, ◌∙◌, fun_ext}
use mathlib.Core.Bool.{true, false}
use mathlib.Core.Option.{Option, none, some}
use Prim.Native.Nat.{ℕ}
use native.Mathlib.Omega.{arith}
use native.Mathlib.Decide.{ℕ_discrete}
use Rattle.search.specs.Put.{put}
use Rattle.search.proofs.UpdateLaws.{put_same, put_other, put_put}
use Rattle.slices.specs.Parts.{Bytes}
use Rattle.record.specs.Meaning.{broken}
use Rattle.image.specs.Image.{Image}
use Rattle.image.specs.SetSlot.{set_entry}
use Rattle.image.specs.Cluster.{Cluster}
use Rattle.image.specs.View.{View}
use Rattle.image.proofs.StoreLaws.{entry_at_lem, entry_off}
use Rattle.planner.specs.Setting.{Setting, witness, views_of}
use Rattle.planner.specs.Rules.{answers}
use Rattle.protocol.specs.Store.{same_entry, Store, store_entry}
use Rattle.protocol.specs.ClusterSteps.{after_store}
use Rattle.protocol.specs.Recovery.{◌or◌, leader_store, unlike, due, first_of, followers_store, next}
use Rattle.protocol.proofs.Effects.{view, IntactAt, torn_effect, fill_effect}
use Rattle.protocol.proofs.ReadyPlan.{ReadyPlan}
use Rattle.protocol.proofs.LeaderDue.{LeaderDue, leader_fetch}
use Rattle.protocol.proofs.FollowerDue.{FollowerDue, follower_mend, follower_fill}
use Rattle.protocol.proofs.Due.{Due, by_leader, by_follower, Outstanding, due_facts}
use Rattle.protocol.proofs.Slots.{answers_readable, answers_other, fetch_facts, leader_entry, leader_fits, unlike_card}
use Rattle.protocol.proofs.Moves.{unlike_same}
use Rattle.protocol.proofs.Measure.{unlike_off}
use Rattle.protocol.proofs.Reach.{Torn, torn}

pub record Tear (S : Setting) (F G : Cluster) (s : Store) : Type 0 where
  pub views_same : views_of S G ≡ views_of S F
  pub next_same : next S G ≡ next S F
  pub stored_same : after_store s G ≡ after_store s F

due_same : (S : Setting) (F G : Cluster) (c : ℕ) → views_of S G ≡ views_of S F → unlike S G c ≡ unlike S F c → due S G c ≡ due S F c
unfolding due
due_same S F G c e u = rw (e, u)

-- what the tear at (c, k) changes
module _ (S : Setting) (F : Cluster) (c k : ℕ) (b : Bytes) where
  torn_image : Image
  torn_image = set_entry (F c) k (broken b)

  tear_views : view S c torn_image ≡ view S c (F c) → views_of S (put F c torn_image) ≡ views_of S F
  unfolding views_of
  tear_views e = fun_ext (λ d. go d (ℕ_discrete d c))
    where
      go : (d : ℕ) → Dec (d ≡ c) → view S d (put F c torn_image d) ≡ view S d (F d)
      go d (yes q) = rw (q, put_same) e
      go d (no q) = rw (put_other F c torn_image d q)

  remade : (d : ℕ) → (d ≡ c → ⊥) → after_store (store_entry c k d) (put F c torn_image) ≡ after_store (store_entry c k d) F
  unfolding after_store set_entry torn_image
  remade d q = rw (put_same, put_other F c torn_image d q, put_put (F c).entries k, put_put F c)

  -- only the unlike-test of c could tell
  followers_same : views_of S (put F c torn_image) ≡ views_of S F → (c ≡ S.leader → ⊥) → unlike S (put F c torn_image) c ≡ unlike S F c → followers_store S (put F c torn_image) ≡ followers_store S F
  unfolding followers_store
  followers_same e q u = ap (λ (f : ℕ → Option Store). first_of f S.shape.n) (fun_ext (λ d. due_same S F (put F c torn_image) d e (unlikes d)))
    where
      unlikes : (d : ℕ) → unlike S (put F c torn_image) d ≡ unlike S F d
      unlikes d = go (ℕ_discrete d c)
        where
          go : Dec (d ≡ c) → unlike S (put F c torn_image) d ≡ unlike S F d
          go (yes p) = rw p u
          go (no p) = unlike_off S F (put F c torn_image) d (put_other F c torn_image d p) (put_other F c torn_image S.leader (λ r. q (sym r)))

or_some : (a b : Option Store) (s : Store) → a ≡ some s → (a or b) ≡ some s
unfolding ◌or◌
or_some none b s e = absurd (let z : ◌≡◌ {A = ℕ} 0 1 = cc in omega arith)
or_some (some t) b s e = e

leader_next : (S : Setting) (F G : Cluster) (s : Store) → views_of S G ≡ views_of S F → leader_store S (views_of S F) ≡ some s → next S G ≡ next S F
unfolding next
leader_next S F G s e l = rw (e, or_some (leader_store S (views_of S F)) (followers_store S G) s l, or_some (leader_store S (views_of S F)) (followers_store S F) s l)

follower_next : (S : Setting) (F G : Cluster) → views_of S G ≡ views_of S F → followers_store S G ≡ followers_store S F → next S G ≡ next S F
unfolding next
follower_next S F G e f = rw (e, f)

leader_tear : (S : Setting) (F : Cluster) (c k d : ℕ) (b : Bytes) → ReadyPlan S (views_of S F) → leader_store S (views_of S F) ≡ some (store_entry c k d) → LeaderDue S F (store_entry c k d)
    → Tear S F (put F c (set_entry (F c) k (broken b))) (store_entry c k d)
unfolding torn_image views_of
leader_tear S F c k d b r e (leader_fetch j h full f) =
    let don = fetch_facts S (views_of S F) k f in
    let same = tear_views S F c k b (torn_effect S c (F c) r.leader k b don.faulty) in
    record { views_same = same; next_same = leader_next S F (put F c (set_entry (F c) k (broken b))) (store_entry c k d) same e; stored_same = remade S F c k b d (answers_other S (views_of S F) d don.asked) }

-- a torn entry is never the leader's intact one
still_unlike : (S : Setting) (F : Cluster) (c : ℕ) (b : Bytes) → answers S (views_of S F) c ≡ true
    → views_of S (put F c (set_entry (F c) (views_of S F c).length (broken b))) ≡ views_of S F
    → IntactAt ((views_of S F S.leader).epoch (views_of S F c).length) ((F S.leader).entries (views_of S F c).length)
    → witness S c ≡ false → unlike S (put F c (set_entry (F c) (views_of S F c).length (broken b))) c ≡ true
unfolding unlike same_entry
still_unlike S F c b an same y card =
    let k = (views_of S F c).length in
    let i = set_entry (F c) k (broken b) in
    rw (same, put_other F c i S.leader (λ q. answers_other S (views_of S F) c an (sym q)), put_same, entry_at_lem (F c) k (broken b), y.is, card)

follower_tear : (S : Setting) (F : Cluster) (c k d : ℕ) (b : Bytes) → ReadyPlan S (views_of S F) → FollowerDue S F (store_entry c k d) → Tear S F (put F c (set_entry (F c) k (broken b))) (store_entry c k d)
unfolding torn_image views_of
follower_tear S F c k d b r (follower_mend c' ld cn an full j h e) =
    let i = set_entry (F c) k (broken b) in
    let other = answers_other S (views_of S F) c an in
    let one = torn_effect S c (F c) (answers_readable S (views_of S F) c an) k b e in
    let same = tear_views S F c k b one in
    record {
      views_same = same;
      next_same = follower_next S F (put F c i) same (followers_same S F c k b same other
          (unlike_same S F c i an (ap (λ (a : View). a.length) one) (entry_off (F c) k (broken b) (view S c (F c)).length (omega (arith, full)))));
      stored_same = remade S F c k b d (λ q. other (sym q));
    }
follower_tear S F c k d b r (follower_fill c' ld cn an full h e) =
    let i = set_entry (F c) k (broken b) in
    let other = answers_other S (views_of S F) c an in
    let one = fill_effect S c (F c) (answers_readable S (views_of S F) c an) k (broken b) (omega arith) (omega (arith, leader_fits S F S.leader, h)) in
    let same = tear_views S F c k b one in
    record {
      views_same = same;
      next_same = follower_next S F (put F c i) same (followers_same S F c k b same other (still_unlike S F c b an same (leader_entry S F r.card r.leader ld k h) (unlike_card S F c e) ∙ sym e));
      stored_same = remade S F c k b d (λ q. other (sym q));
    }

-- law 2
pub torn_law : (S : Setting) (F G : Cluster) (s : Store) → next S F ≡ some s → Torn F s G → Tear S F G s
torn_law S F G s e (torn {c} {k} {d} b) = go (due_facts S F (store_entry c k d) e)
  where
    go : Outstanding S F (store_entry c k d) → Tear S F (put F c (set_entry (F c) k (broken b))) (store_entry c k d)
    go o = at o.is_due
      where
        at : Due S F (store_entry c k d) → Tear S F (put F c (set_entry (F c) k (broken b))) (store_entry c k d)
        at (by_leader l u) = leader_tear S F c k d b o.plan l u
        at (by_follower l f u) = follower_tear S F c k d b o.plan u
