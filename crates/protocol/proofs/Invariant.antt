-- What is supposed at first holds of all that recovery can reach (`reach_inv`).
use mathlib.Core.Path.{◌≡◌, sym, ap, ◌∙◌}
use mathlib.Core.Bool.{Bool, true}
use mathlib.Core.Option.{some}
use Prim.Native.Nat.{ℕ, ◌≤◌, ◌<◌}
use native.Mathlib.Omega.{arith}
use native.Mathlib.Decide.{ℕ_discrete}
use Rattle.search.specs.Search.{count}
use Rattle.slices.specs.Parts.{Bytes}
use Rattle.record.specs.Meaning.{intact}
use Rattle.image.specs.Cluster.{Cluster}
use Rattle.image.specs.View.{View}
use Rattle.planner.specs.Setting.{Setting, views_of}
use Rattle.planner.specs.Rules.{majority, end}
use Rattle.protocol.specs.Store.{Store}
use Rattle.protocol.specs.ClusterSteps.{after_store}
use Rattle.protocol.specs.Recovery.{next, first_differing}
use Rattle.protocol.proofs.Effects.{Blanked, Mended, Appended}
use Rattle.protocol.proofs.Due.{due_facts}
use Rattle.protocol.proofs.Slots.{answers_readable}
use Rattle.protocol.proofs.Moves.{Off, Move, leader_blanked, leader_mended, follower_blanked, follower_mended, follower_filled, follower_appended, moved}
use Rattle.protocol.proofs.PlanLaws.{off_views, same_plan}
use Rattle.protocol.proofs.Reach.{Torn, Reach, reach_keeps}
use Rattle.protocol.proofs.TornLaw.{torn_law}
use Rattle.protocol.proofs.Keeps.{stored_entry, torn_entry}
use Rattle.protocol.proofs.Consistency.{Consistent, stored_consistent, torn_consistent}
use Rattle.protocol.proofs.Quorum.{Quorum, end_above}
use Rattle.protocol.proofs.HoldingLaws.{Holding, differing_above, holding_quorum}

-- what a holder has
pub record Holder (S : Setting) (F₀ F : Cluster) (K e c : ℕ) : Type 0 where
  pub used : Holding K e (views_of S F c)
  pub entry : (q : Bytes) → (F₀ c).entries K ≡ intact e q → (F c).entries K ≡ intact e q

pub record Inv (S : Setting) (pay : ℕ → ℕ → Bytes) (prev : ℕ → ℕ → ℕ) (hold : ℕ → Bool) (K e : ℕ) (F₀ F : Cluster) : Type 0 where
  pub consistent : Consistent S pay prev F
  pub holders : (c : ℕ) → c < S.shape.n → hold c ≡ true → (views_of S F c).readable ≡ true → Holder S F₀ F K e c

-- ---- the slot stays used through a store
off_holding : (S : Setting) (F G : Cluster) (t K e : ℕ) → Off t F G → (c : ℕ) → Holding K e (views_of S F c) → (c ≡ t → Holding K e (views_of S G t)) → Holding K e (views_of S G c)
off_holding S F G t K e off c h g = go (ℕ_discrete c t)
  where
    go : Dec (c ≡ t) → Holding K e (views_of S G c)
    go (yes q) = rw q (g q)
    go (no q) = rw (off_views S F G t off c q) h

blanked_holding : (l K e : ℕ) (a b : View) → Blanked l a b → K < l → Holding K e a → Holding K e b
blanked_holding l K e a b t h x = record { within = omega (arith, t.is); epoch = t.epochs K h ∙ x.epoch }

mended_holding : (k K e : ℕ) (a b : View) → Mended k a b → Holding K e a → Holding K e b
mended_holding k K e a b t x = record { within = omega (arith, t.lengths, x.within); epoch = t.epochs K ∙ x.epoch }

appended_holding : (l v K e : ℕ) (a b : View) → Appended l v a b → Holding K e a → Holding K e b
appended_holding l v K e a b t x = record { within = omega (arith, t.is, t.was, x.within); epoch = t.epochs K (omega (arith, t.was, x.within)) ∙ x.epoch }

move_holding : (S : Setting) (F G : Cluster) (K e : ℕ) → K < end S (views_of S F) → ((c : ℕ) → c < S.shape.n → (views_of S F c).readable ≡ true → Holding K e (views_of S F c) → K < first_differing S (views_of S F) c)
    → Move S F G → (c : ℕ) → Holding K e (views_of S F c) → Holding K e (views_of S G c)
move_holding S F G K e above kept (leader_blanked l off t h) c x =
    off_holding S F G S.leader K e off c x (λ q. blanked_holding l K e (views_of S F S.leader) (views_of S G S.leader) t (omega arith) (rw q at x))
move_holding S F G K e above kept (leader_mended k off t h full y z u) c x =
    off_holding S F G S.leader K e off c x (λ q. mended_holding k K e (views_of S F S.leader) (views_of S G S.leader) t (rw q at x))
move_holding S F G K e above kept (follower_blanked d l ld cn an off t h) c x =
    off_holding S F G d K e off c x (λ q. blanked_holding l K e (views_of S F d) (views_of S G d) t (omega (arith, kept d cn (answers_readable S (views_of S F) d an) (rw q at x))) (rw q at x))
move_holding S F G K e above kept (follower_mended d k ld cn an off t h full u w) c x =
    off_holding S F G d K e off c x (λ q. mended_holding k K e (views_of S F d) (views_of S G d) t (rw q at x))
move_holding S F G K e above kept (follower_filled d ld cn an off t full h u v) c x = off_holding S F G d K e off c x (λ q. rw t (rw q at x))
move_holding S F G K e above kept (follower_appended d ld cn an off t full h u) c x =
    off_holding S F G d K e off c x (λ q. appended_holding (views_of S F d).length ((views_of S F S.leader).epoch (views_of S F d).length) K e (views_of S F d) (views_of S G d) t (rw q at x))

module _ (S : Setting) (pay : ℕ → ℕ → Bytes) (prev : ℕ → ℕ → ℕ) (hold : ℕ → Bool) (K e : ℕ) (F₀ : Cluster)
    (n : S.leader < S.shape.n) (many : majority S.shape.n ≤ count hold S.shape.n) (top : hold S.leader ≡ true) where
  -- who keeps the slot: those that hold it, with the leader among them
  pub inv_quorum : (F : Cluster) → Inv S pay prev hold K e F₀ F → (views_of S F S.leader).readable ≡ true → (j : ℕ) → j ≤ K → Quorum S (views_of S F) hold j
  inv_quorum F i ok =
      holding_quorum S pay prev F i.consistent K e n ok (i.holders S.leader n top ok).used hold many (λ c cn h r. (i.holders c cn h r).used)

  pub stored_inv : (F : Cluster) (s : Store) → Inv S pay prev hold K e F₀ F → next S F ≡ some s → Inv S pay prev hold K e F₀ (after_store s F)
  stored_inv F s i x =
      let o = due_facts S F s x in
      let v = moved S F s o.plan o.is_due in
      let p = same_plan S F (after_store s F) o.plan v in
      let leader = (i.holders S.leader n top o.plan.leader).used in
      let above = end_above S (views_of S F) hold K leader.within (inv_quorum F i o.plan.leader) in
      record {
        consistent = stored_consistent S pay prev F s n o.plan o.is_due i.consistent;
        holders = λ c cn h r.
            let b = i.holders c cn h (sym (p.readables c) ∙ r) in
            record {
              used = move_holding S F (after_store s F) K e above (differing_above S pay prev F i.consistent K e n o.plan.leader leader) v c b.used;
              entry = λ q y. stored_entry S F s o.is_due c K q b.used.within (b.entry q y ∙ ap (λ (t : ℕ). intact t q) (sym b.used.epoch)) ∙ b.entry q y;
            };
      }

  pub torn_inv : (F G : Cluster) (s : Store) → Inv S pay prev hold K e F₀ F → next S F ≡ some s → Torn F s G → Inv S pay prev hold K e F₀ G
  torn_inv F G s i x t =
      let o = due_facts S F s x in
      let w = torn_law S F G s x t in
      let same = w.views_same in
      record {
        consistent = torn_consistent S pay prev F G s t same i.consistent;
        holders = λ c cn h r.
            let b = i.holders c cn h (rw same at r) in
            record {
              used = rw same b.used;
              entry = λ q y. torn_entry S F G s o.is_due t c K q b.used.within (b.entry q y ∙ ap (λ (t : ℕ). intact t q) (sym b.used.epoch)) ∙ b.entry q y;
            };
      }

  pub reach_inv : {F : Cluster} → Inv S pay prev hold K e F₀ F₀ → Reach S F₀ F → Inv S pay prev hold K e F₀ F
  reach_inv i r = reach_keeps S (Inv S pay prev hold K e F₀) stored_inv torn_inv i r
