-- What holds of every cluster and all that recovery makes of it among power failures, with nothing supposed.
use Prim.Native.Nat.{ℕ, ◌<◌}
use mathlib.Core.Path.{◌≡◌, refl, sym, ◌∙◌}
use mathlib.Core.Bool.{false, true≢false}
use mathlib.Core.Option.{none, some}
use native.Mathlib.Omega.{arith}
use Rattle.image.specs.Cluster.{Cluster}
use Rattle.planner.specs.Setting.{Setting, views_of}
use Rattle.planner.specs.Rules.{answer}
use Rattle.protocol.specs.Store.{Store, store_replica}
use Rattle.protocol.specs.ClusterSteps.{after_store}
use Rattle.protocol.specs.Recovery.{next}
use Rattle.protocol.specs.ClusterSteps.{steps}
use Rattle.protocol.proofs.Due.{due_facts}
use Rattle.protocol.proofs.Reach.{Torn, Reach, reach_keeps}
use Rattle.protocol.proofs.TornLaw.{torn_law}
use Rattle.protocol.proofs.Runs.{enough, step_law, final_stored, final_torn}
use Rattle.protocol.proofs.Keeps.{stored_off, torn_off, Target, due_target}

pub record Always (S : Setting) (F₀ F : Cluster) : Type 0 where
  -- the same replicas are readable, all have the same first indices, the others keep what they have, the planner's answer is the first one
  pub readables : (c : ℕ) → (views_of S F c).readable ≡ (views_of S F₀ c).readable
  pub firsts : (c : ℕ) → (views_of S F c).first ≡ (views_of S F₀ c).first
  pub untouched : (c : ℕ) → (views_of S F₀ c).readable ≡ false → F c ≡ F₀ c
  pub answers : answer S (views_of S F) ≡ answer S (views_of S F₀)
  -- a run with stores enough leaves the same cluster; one with nothing to store stays
  pub finals : steps S (enough S) F ≡ steps S (enough S) F₀
  pub still : next S F₀ ≡ none → F ≡ F₀

module _ (S : Setting) (F₀ : Cluster) (n : S.leader < S.shape.n) where
  -- a store is due: one was at first
  began : (F : Cluster) (s : Store) → Always S F₀ F → next S F ≡ some s → next S F₀ ≡ none → ⊥
  began F s i x z =
      let y : next S F ≡ none = rw (i.still z) z in
      let w : ◌≡◌ {A = ℕ} 0 1 = cc in omega arith

  off_target : (F : Cluster) (s : Store) → Always S F₀ F → Target S F (store_replica s) → (c : ℕ) → (views_of S F₀ c).readable ≡ false → c ≡ store_replica s → ⊥
  off_target F s i t c f q = true≢false (sym t.ok ∙ i.readables (store_replica s) ∙ rw (← q) f)

  stored_always : (F : Cluster) (s : Store) → Always S F₀ F → next S F ≡ some s → Always S F₀ (after_store s F)
  stored_always F s i x =
      let o = due_facts S F s x in
      let p = step_law S F s n x in
      record {
        readables = λ c. p.readables c ∙ i.readables c;
        firsts = λ c. p.firsts c ∙ i.firsts c;
        untouched = λ c f. stored_off s F c (off_target F s i (due_target S F s n o.plan o.is_due) c f) ∙ i.untouched c f;
        answers = p.answers ∙ i.answers;
        finals = final_stored S n F s x ∙ i.finals;
        still = λ z. absurd (began F s i x z);
      }

  torn_always : (F G : Cluster) (s : Store) → Always S F₀ F → next S F ≡ some s → Torn F s G → Always S F₀ G
  torn_always F G s i x t =
      let o = due_facts S F s x in
      let same = (torn_law S F G s x t).views_same in
      record {
        readables = λ c. rw same (i.readables c);
        firsts = λ c. rw same (i.firsts c);
        untouched = λ c f. torn_off s F G t c (off_target F s i (due_target S F s n o.plan o.is_due) c f) ∙ i.untouched c f;
        answers = rw same i.answers;
        finals = final_torn S n F G s x t ∙ i.finals;
        still = λ z. absurd (began F s i x z);
      }

  pub always : {F : Cluster} → Reach S F₀ F → Always S F₀ F
  always r =
      reach_keeps S (Always S F₀) stored_always torn_always
      (record { readables = λ c. refl; firsts = λ c. refl; untouched = λ c f. refl; answers = refl; finals = refl; still = λ z. refl }) r
