-- The supposition is its own invariant. `pay k e` is the payload that every log with epoch e at slot k holds there, `prev k e` the epoch of the slot below it.
use mathlib.Core.Path.{◌≡◌, sym, ap, ◌∙◌}
use mathlib.Core.Bool.{true, false}
use Prim.Native.Nat.{ℕ, suc, ◌<◌}
use native.Mathlib.Omega.{arith}
use native.Mathlib.Decide.{ℕ_discrete}
use Rattle.search.specs.Put.{put}
use Rattle.search.proofs.UpdateLaws.{put_same, put_other}
use Rattle.slices.specs.Parts.{Bytes}
use Rattle.record.specs.Meaning.{intact, broken}
use Rattle.image.specs.Image.{Image}
use Rattle.image.specs.SetSlot.{set_entry}
use Rattle.image.specs.Cluster.{Cluster}
use Rattle.image.specs.View.{View}
use Rattle.image.proofs.StoreLaws.{entry_at_lem, entry_off}
use Rattle.planner.specs.Setting.{Setting, witness, views_of}
use Rattle.protocol.specs.Store.{Store}
use Rattle.protocol.specs.ClusterSteps.{after_store}
use Rattle.protocol.proofs.ReadyPlan.{ReadyPlan}
use Rattle.protocol.proofs.Due.{Due}
use Rattle.protocol.proofs.Slots.{answers_readable, below_differing}
use Rattle.protocol.proofs.Moves.{Off, Move, leader_blanked, leader_mended, follower_blanked, follower_mended, follower_filled, follower_appended, moved}
use Rattle.protocol.proofs.PlanLaws.{off_views, same_plan}
use Rattle.protocol.proofs.Reach.{Torn, torn}
use Rattle.protocol.proofs.Sources.{stored_source}

pub record Consistent (S : Setting) (pay : ℕ → ℕ → Bytes) (prev : ℕ → ℕ → ℕ) (F : Cluster) : Type 0 where
  pub payloads : (c k : ℕ) (p : Bytes) → c < S.shape.n → witness S c ≡ false → (views_of S F c).readable ≡ true → k < (views_of S F c).length
      → (F c).entries k ≡ intact ((views_of S F c).epoch k) p → p ≡ pay k ((views_of S F c).epoch k)
  pub chain : (c k : ℕ) → c < S.shape.n → (views_of S F c).readable ≡ true → suc k < (views_of S F c).length
      → (views_of S F c).epoch k ≡ prev (suc k) ((views_of S F c).epoch (suc k))

-- a log's epochs, linked below l
Linked : (ℕ → ℕ → ℕ) → ℕ → View → Type 0
Linked prev l a = (k : ℕ) → suc k < l → a.epoch k ≡ prev (suc k) (a.epoch (suc k))

linked_same : (prev : ℕ → ℕ → ℕ) (l : ℕ) (a b : View) → Linked prev l a → ((j : ℕ) → j < l → b.epoch j ≡ a.epoch j) → Linked prev l b
unfolding Linked
linked_same prev l a b h e k x = rw (e k (omega arith), e (suc k) x) (h k x)

module _ (S : Setting) (pay : ℕ → ℕ → Bytes) (prev : ℕ → ℕ → ℕ) where
  off_chain : (F G : Cluster) (t : ℕ) → Off t F G → Consistent S pay prev F → Linked prev (views_of S G t).length (views_of S G t)
      → (c k : ℕ) → c < S.shape.n → (views_of S F c).readable ≡ true → suc k < (views_of S G c).length → (views_of S G c).epoch k ≡ prev (suc k) ((views_of S G c).epoch (suc k))
  unfolding Linked
  off_chain F G t off i l c k cn ok h = go (ℕ_discrete c t)
    where
      go : Dec (c ≡ t) → (views_of S G c).epoch k ≡ prev (suc k) ((views_of S G c).epoch (suc k))
      go (yes q) = rw q (l k (rw q at h))
      go (no q) = let e = off_views S F G t off c q in rw e (i.chain c k cn ok (rw e at h))

  move_chain : (F G : Cluster) → S.leader < S.shape.n → ReadyPlan S (views_of S F) → Move S F G → Consistent S pay prev F
      → (c k : ℕ) → c < S.shape.n → (views_of S F c).readable ≡ true → suc k < (views_of S G c).length → (views_of S G c).epoch k ≡ prev (suc k) ((views_of S G c).epoch (suc k))
  unfolding Linked
  move_chain F G n r (leader_blanked l off t h) i = off_chain F G S.leader off i (rw t.is (linked_same prev l (views_of S F S.leader) (views_of S G S.leader) (λ k x. i.chain S.leader k n r.leader (omega (arith, t.was))) t.epochs))
  move_chain F G n r (leader_mended k off t h full x y u) i =
      off_chain F G S.leader off i (rw t.lengths (linked_same prev (views_of S F S.leader).length (views_of S F S.leader) (views_of S G S.leader) (λ k x. i.chain S.leader k n r.leader x) (λ j b. t.epochs j)))
  move_chain F G n r (follower_blanked c l ld cn an off t h) i =
      off_chain F G c off i (rw t.is (linked_same prev l (views_of S F c) (views_of S G c) (λ k x. i.chain c k cn (answers_readable S (views_of S F) c an) (omega (arith, t.was))) t.epochs))
  move_chain F G n r (follower_mended c k ld cn an off t h full u w) i =
      off_chain F G c off i (rw t.lengths (linked_same prev (views_of S F c).length (views_of S F c) (views_of S G c) (λ k x. i.chain c k cn (answers_readable S (views_of S F) c an) x) (λ j b. t.epochs j)))
  move_chain F G n r (follower_filled c ld cn an off t full h u v) i =
      off_chain F G c off i (rw t (λ k x. i.chain c k cn (answers_readable S (views_of S F) c an) x))
  move_chain F G n r (follower_appended c ld cn an off t full h u) i = off_chain F G c off i (rw t.is (λ k x. go k x (ℕ_discrete (suc k) (views_of S F c).length)))
    where
      go : (k : ℕ) → suc k < suc (views_of S F c).length → Dec (suc k ≡ (views_of S F c).length) → (views_of S G c).epoch k ≡ prev (suc k) ((views_of S G c).epoch (suc k))
      go k x (yes q) =
          rw (t.epochs k (omega arith), q, t.epoch, (below_differing S (views_of S F) c k (omega (arith, full))).epochs) (rw q at (i.chain S.leader k n r.leader (omega (arith, h, q))))
      go k x (no q) = rw (t.epochs k (omega arith), t.epochs (suc k) (omega arith)) (i.chain c k cn (answers_readable S (views_of S F) c an) (omega arith))

  pub stored_consistent : (F : Cluster) (s : Store) → S.leader < S.shape.n → ReadyPlan S (views_of S F) → Due S F s → Consistent S pay prev F → Consistent S pay prev (after_store s F)
  stored_consistent F s n r u i =
      let v = moved S F s r u in
      let p = same_plan S F (after_store s F) r v in
      record {
        payloads = λ c k q cn card ok h e.
            let z = stored_source S F s n r u c k cn (sym (p.readables c) ∙ ok) h in
            rw (← z.epochs) (i.payloads z.from k q z.below (z.card card) z.ok z.within (rw (z.entries card, z.epochs) e));
        chain = λ c k cn ok h. move_chain F (after_store s F) n r v i c k cn (sym (p.readables c) ∙ ok) h;
      }

  pub torn_consistent : (F G : Cluster) (s : Store) → Torn F s G → views_of S G ≡ views_of S F → Consistent S pay prev F → Consistent S pay prev G
  torn_consistent F G s (torn {c = d} {k = j} b) e i = record {
    payloads = λ c k q cn card ok h x. rw e (i.payloads c k q cn card (rw e at ok) (rw e at h) (back c k q (rw e at x) (ℕ_discrete c d) (ℕ_discrete k j)));
    chain = λ c k cn ok h. rw e (i.chain c k cn (rw e at ok) (rw e at h));
  }
    where
      back : (c k : ℕ) (q : Bytes) → (put F d (set_entry (F d) j (broken b)) c).entries k ≡ intact ((views_of S F c).epoch k) q → Dec (c ≡ d) → Dec (k ≡ j) → (F c).entries k ≡ intact ((views_of S F c).epoch k) q
      back c k q x (yes p) (yes r) =
          let z : broken b ≡ intact ((views_of S F c).epoch k) q = sym (rw (p, r, put_same) (entry_at_lem (F d) j (broken b))) ∙ x in
          absurd (let y : ◌≡◌ {A = ℕ} 0 1 = cc in omega arith)
      back c k q x (yes p) (no r) = sym (rw (p, put_same) (entry_off (F d) j (broken b) k r)) ∙ x
      back c k q x (no p) r = sym (ap (λ (a : Image). a.entries k) (put_other F d (set_entry (F d) j (broken b)) c p)) ∙ x
