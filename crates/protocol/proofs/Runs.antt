-- Runs end, and end alike: from a cluster, from any later one, and from any torn one.
use mathlib.Core.Path.{◌≡◌, refl, sym, ap, ◌∙◌}
use mathlib.Core.Option.{Option, none, some}
use Prim.Native.Nat.{ℕ, zero, suc, ◌*◌, ◌≤◌, ◌<◌}
use native.Mathlib.Omega.{arith}
use Rattle.image.specs.Cluster.{Cluster}
use Rattle.planner.specs.Setting.{Setting, views_of}
use Rattle.planner.specs.Rules.{answer}
use Rattle.protocol.specs.Store.{Store}
use Rattle.protocol.specs.ClusterSteps.{after_store}
use Rattle.protocol.specs.Recovery.{next, after}
use Rattle.protocol.specs.ClusterSteps.{steps, stores}
use Rattle.protocol.proofs.Due.{due_facts}
use Rattle.protocol.proofs.Moves.{moved}
use Rattle.protocol.proofs.PlanLaws.{same_plan, answer_same}
use Rattle.protocol.proofs.Work.{work, work_bound}
use Rattle.protocol.proofs.Measure.{work_falls}
use Rattle.protocol.proofs.Reach.{Torn, Reach, here, made}
use Rattle.protocol.proofs.TornLaw.{torn_law}

-- law 1: a store that was due, made, leaves less work, the same answer, the same readable replicas and the same first indices
pub record Progress (S : Setting) (F G : Cluster) : Type 0 where
  pub less : work S G < work S F
  pub answers : answer S (views_of S G) ≡ answer S (views_of S F)
  pub readables : (c : ℕ) → (views_of S G c).readable ≡ (views_of S F c).readable
  pub firsts : (c : ℕ) → (views_of S G c).first ≡ (views_of S F c).first

pub step_law : (S : Setting) (F : Cluster) (s : Store) → S.leader < S.shape.n → next S F ≡ some s → Progress S F (after_store s F)
step_law S F s ok e =
    let o = due_facts S F s e in
    let v = moved S F s o.plan o.is_due in
    let p = same_plan S F (after_store s F) o.plan v in
    record {
      less = work_falls S F (after_store s F) ok o.plan v;
      answers = answer_same S (views_of S F) (views_of S (after_store s F)) o.plan p;
      readables = p.readables;
      firsts = p.firsts;
    }

module _ (S : Setting) where
  pub steps_none : (b : ℕ) (F : Cluster) → next S F ≡ none → steps S b F ≡ F
  unfolding steps after
  steps_none zero F e = refl
  steps_none (suc b) F e = rw e

  pub steps_some : (b : ℕ) (F : Cluster) (s : Store) → next S F ≡ some s → steps S (suc b) F ≡ steps S b (after_store s F)
  unfolding steps after
  steps_some b F s e = rw e

  -- law 3: stores enough, and none is outstanding
  pub finishes : S.leader < S.shape.n → (b : ℕ) (F : Cluster) → work S F ≤ b → next S (steps S b F) ≡ none
  unfolding steps after
  finishes ok zero F h = go (next S F) refl
    where
      go : (o : Option Store) → next S F ≡ o → next S F ≡ none
      go none e = e
      go (some s) e = absurd (omega (arith, (step_law S F s ok e).less))
  finishes ok (suc b) F h = go (next S F) refl (finishes ok b)
    where
      go : (o : Option Store) → next S F ≡ o → ((G : Cluster) → work S G ≤ b → next S (steps S b G) ≡ none) → next S (steps S (suc b) F) ≡ none
      go none e ih = rw e e
      go (some s) e ih = rw e (ih (after_store s F) (omega (arith, (step_law S F s ok e).less)))

  -- one more step changes nothing then
  pub at_rest : (b : ℕ) (F : Cluster) → next S (steps S b F) ≡ none → steps S (suc b) F ≡ steps S b F
  unfolding steps
  at_rest zero F e = steps_none 1 F e
  at_rest (suc b) F e = go (next S F) refl (at_rest b)
    where
      go : (o : Option Store) → next S F ≡ o → ((G : Cluster) → next S (steps S b G) ≡ none → steps S (suc b) G ≡ steps S b G) → steps S (suc (suc b)) F ≡ steps S (suc b) F
      go none p ih = steps_none (suc (suc b)) F p ∙ sym (steps_none (suc b) F p)
      go (some s) p ih = steps_some (suc b) F s p ∙ ih (after_store s F) (rw (steps_some b F s p) at e) ∙ sym (steps_some b F s p)

  abbrev pub enough : ℕ
  enough = 3 * S.shape.n * S.shape.m

  pub final_stored : S.leader < S.shape.n → (F : Cluster) (s : Store) → next S F ≡ some s → steps S enough (after_store s F) ≡ steps S enough F
  final_stored ok F s e = sym (steps_some enough F s e) ∙ at_rest enough F (finishes ok enough F (work_bound S F))

  pub final_torn : S.leader < S.shape.n → (F G : Cluster) (s : Store) → next S F ≡ some s → Torn F s G → steps S enough G ≡ steps S enough F
  final_torn ok F G s e t =
      let w = torn_law S F G s e t in
      sym (final_stored ok G s (w.next_same ∙ e)) ∙ ap (steps S enough) w.stored_same ∙ final_stored ok F s e

  -- steps are stores that were due
  pub reach_steps : (b : ℕ) (F : Cluster) → Reach S F (steps S b F)
  unfolding steps after
  reach_steps zero F = here
  reach_steps (suc b) F = go (next S F) refl (reach_steps b)
    where
      go : (o : Option Store) → next S F ≡ o → ((G : Cluster) → Reach S G (steps S b G)) → Reach S F (after o F (λ s. steps S b (after_store s F)))
      go none e ih = here
      go (some s) e ih = made s e (ih (after_store s F))

-- ---- how many stores a run makes
stores_work : (S : Setting) → S.leader < S.shape.n → (b : ℕ) (F : Cluster) → stores S b F ≤ work S F
unfolding stores after
stores_work S ok zero F = omega arith
stores_work S ok (suc b) F = go (next S F) refl (stores_work S ok b)
  where
    go : (o : Option Store) → next S F ≡ o → ((G : Cluster) → stores S b G ≤ work S G) → after o zero (λ s. suc (stores S b (after_store s F))) ≤ work S F
    go none e ih = omega arith
    go (some s) e ih = omega (arith, ih (after_store s F), (step_law S F s ok e).less)

-- law 3: no run from any cluster makes more than 3 × n × m stores
pub stores_bound : (S : Setting) → S.leader < S.shape.n → (b : ℕ) (F : Cluster) → stores S b F ≤ 3 * S.shape.n * S.shape.m
stores_bound S ok b F = omega (arith, stores_work S ok b F, work_bound S F)

-- a store is outstanding after a run only if the whole budget was used
pub spent_all : (S : Setting) (b : ℕ) (F : Cluster) (s : Store) → next S (steps S b F) ≡ some s → stores S b F ≡ b
unfolding stores steps after
spent_all S zero F s e = refl
spent_all S (suc b) F s e = go (next S F) refl (spent_all S b) e
  where
    go : (o : Option Store) → next S F ≡ o → ((G : Cluster) (s : Store) → next S (steps S b G) ≡ some s → stores S b G ≡ b)
        → next S (after o F (λ s. steps S b (after_store s F))) ≡ some s → after o zero (λ s. suc (stores S b (after_store s F))) ≡ suc b
    go none q ih x = absurd (let z : ◌≡◌ {A = ℕ} 0 1 = cc in omega arith)
    go (some t) q ih x = ap suc (ih (after_store t F) s x)

-- the count of a run is the number of steps between the two clusters
pub steps_stores : (S : Setting) (b : ℕ) (F : Cluster) → steps S (stores S b F) F ≡ steps S b F
unfolding stores steps after
steps_stores S zero F = refl
steps_stores S (suc b) F = go (next S F) refl (steps_stores S b)
  where
    go : (o : Option Store) → next S F ≡ o → ((G : Cluster) → steps S (stores S b G) G ≡ steps S b G)
        → steps S (after o zero (λ s. suc (stores S b (after_store s F)))) F ≡ after o F (λ s. steps S b (after_store s F))
    go none e ih = refl
    go (some s) e ih = steps_some S (stores S b (after_store s F)) F s e ∙ ih (after_store s F)

-- runs that leave nothing outstanding leave the same cluster, whatever their budgets
pub unspent : (S : Setting) (a b : ℕ) (F : Cluster) → next S (steps S a F) ≡ none → next S (steps S b F) ≡ none → steps S a F ≡ steps S b F
unfolding steps
unspent S zero b F x y = sym (steps_none S b F x)
unspent S (suc a) zero F x y = steps_none S (suc a) F y
unspent S (suc a) (suc b) F x y = go (next S F) refl (λ G. unspent S a b G)
  where
    go : (o : Option Store) → next S F ≡ o → ((G : Cluster) → next S (steps S a G) ≡ none → next S (steps S b G) ≡ none → steps S a G ≡ steps S b G)
        → steps S (suc a) F ≡ steps S (suc b) F
    go none e ih = steps_none S (suc a) F e ∙ sym (steps_none S (suc b) F e)
    go (some s) e ih =
        steps_some S a F s e ∙ ih (after_store s F) (rw (steps_some S a F s e) at x) (rw (steps_some S b F s e) at y) ∙ sym (steps_some S b F s e)
