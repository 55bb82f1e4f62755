-- What a call answers and leaves, by whether it is refused and by the planner's answer.
use Prim.Native.Nat.{ℕ, zero, suc, pred, ◌<◌}
use mathlib.Core.Path.{◌≡◌, refl, sym, ap, ◌∙◌}
use mathlib.Core.Bool.{Bool, true, false, cond}
use native.Mathlib.Omega.{arith}
use native.Mathlib.Decide.{ℕ_discrete}
use lib.Dec.{ltb}
use lib.ListN.{length}
use borrow.Author.Tests.{eq-eqb, ne_eqb}
use Rattle.slices.specs.Parts.{Bytes}
use Rattle.image.specs.Refusal.{◌else◌}
use Rattle.image.specs.View.{is_size, is_slots, is_edition}
use Rattle.image.specs.Cluster.{image_at}
use Rattle.image.specs.View.{View}
use Rattle.image.proofs.RefusalLaws.{refuse_off, else_zero_l}
use Rattle.planner.specs.Setting.{Setting, setting_of}
use Rattle.planner.specs.Rules.{Answer, Refused, Waiting, Ready, answer, first_waiting, end, may_lead, same_firsts}
use Rattle.planner.specs.Plan.{views_in, lent_refusal, plan_refusal}
use Rattle.planner.proofs.ShapeLaws.{shaped_slots, shaped_size, shaped_edition, shaped_bytes}
use Rattle.planner.proofs.CallLaws.{lead_accepted, lead_reads, leader_accepted, firsts_accepted, cluster_shaped, cluster_cong}
use Rattle.protocol.specs.StepBytes.{next_in, steps_bytes, stores_bytes}
use Rattle.protocol.specs.Call.{Call, plan, step, run, Numbers, named, budget_of, refusal_in, refusal_of}
use Rattle.protocol.proofs.ReadyPlan.{firsts_same}
use Rattle.protocol.specs.CallResult.{refused, call_result, call_bytes, accepted_result, ready_result, answered, step_result, run_result, planning}

-- what a cluster that is not refused has
pub record Accepted (N : Numbers) (b : Bytes) : Type 0 where
  pub slots : is_slots N.shape.m ≡ true
  pub sizes : is_size N.shape.n ≡ true
  pub editions : is_edition N.shape.edition ≡ true
  pub size : length b ≡ image_at N.shape N.shape.n
  pub low : (named N).leader < N.shape.n
  pub leads : may_lead (named N) (views_in (named N) b) ≡ true
  pub readable : (views_in (named N) b (named N).leader).readable ≡ true
  pub firsts : same_firsts (named N) (views_in (named N) b) ≡ true

pub accepted : (N : Numbers) (b : Bytes) → refusal_in N b ≡ 0 → Accepted N b
unfolding setting_of
accepted N b e =
    let z = cluster_shaped N.shape N.leader N.present b e in
    let l = leader_accepted N.shape N.leader N.present b e in
    record {
      slots = shaped_slots N.shape N.present (length b) z;
      sizes = shaped_size N.shape N.present (length b) z;
      editions = shaped_edition N.shape N.present (length b) z;
      size = shaped_bytes N.shape N.present (length b) z;
      low = l.0;
      leads = lead_accepted N.shape N.leader N.present b e;
      readable = l.1;
      firsts = firsts_accepted N.shape N.leader N.present b e;
    }

-- a call that is not refused finds the cluster not refused
pub call_accepted : (N : Numbers) (q : Call) (b : Bytes) → refusal_of N q b ≡ 0 → refusal_in N b ≡ 0
unfolding refusal_of plan_refusal lent_refusal
call_accepted N (plan p r) b e = else_zero_l _ _ e
call_accepted N step b e = e
call_accepted N (run j) b e = e

-- bytes of one size, of which the same replicas are readable with the same first indices, are refused alike
pub refusal_same : (N : Numbers) (a b : Bytes) → length a ≡ length b → ((c : ℕ) → (views_in (named N) a c).readable ≡ (views_in (named N) b c).readable)
    → ((c : ℕ) → (views_in (named N) a c).first ≡ (views_in (named N) b c).first) → refusal_in N a ≡ refusal_in N b
refusal_same N a b l r f =
    cluster_cong N.shape N.leader N.present a b l (r (pred N.leader)) (firsts_same (named N) (views_in (named N) b) (views_in (named N) a) r f)

-- ---- results and bytes
module _ (N : Numbers) (q : Call) (b : Bytes) where
  pub refused_result : (refusal_of N q b ≡ 0 → ⊥) → call_result N q b ≡ refused (refusal_of N q b)
  unfolding call_result
  refused_result h = rw (ne_eqb (refusal_of N q b) 0 h)

  pub refused_bytes : (refusal_of N q b ≡ 0 → ⊥) → call_bytes N q b ≡ b
  unfolding call_bytes
  refused_bytes h = rw (ne_eqb (refusal_of N q b) 0 h)

  pub made_result : refusal_of N q b ≡ 0 → call_result N q b ≡ accepted_result N q b
  unfolding call_result
  made_result e = rw (eq-eqb (refusal_of N q b) 0 e)

  pub made_bytes : refusal_of N q b ≡ 0 → call_bytes N q b ≡ steps_bytes (named N) (budget_of q) b
  unfolding call_bytes
  made_bytes e = rw (eq-eqb (refusal_of N q b) 0 e)

else_none : (r s : ℕ) → s ≡ 0 → (r else s) ≡ r
unfolding ◌else◌
else_none zero s e = e
else_none (suc r) s e = refl

module _ (N : Numbers) (b : Bytes) where
  -- planning with the buffers that it asks for is refused as the cluster is
  pub planning_refusal : refusal_of N (planning N) b ≡ refusal_in N b
  unfolding refusal_of plan_refusal lent_refusal
  planning_refusal = else_none (refusal_in N b) _ (refuse_off 13 (rw (eq-eqb N.shape.m N.shape.m refl, eq-eqb N.shape.n N.shape.n refl)))

  module _ (h : refusal_in N b ≡ 0 → ⊥) where
    pub planning_refused : call_result N (planning N) b ≡ refused (refusal_in N b)
    planning_refused = refused_result N (planning N) b (λ e. h (sym planning_refusal ∙ e)) ∙ ap refused planning_refusal

    pub step_refused : call_result N step b ≡ refused (refusal_in N b)
    unfolding refusal_of
    step_refused = refused_result N step b h

    pub run_refused : (j : ℕ) → call_result N (run j) b ≡ refused (refusal_in N b)
    unfolding refusal_of
    run_refused j = refused_result N (run j) b h

    pub run_kept : (j : ℕ) → call_bytes N (run j) b ≡ b
    unfolding refusal_of
    run_kept j = refused_bytes N (run j) b h

    pub step_kept : call_bytes N step b ≡ b
    unfolding refusal_of
    step_kept = refused_bytes N step b h

  module _ (e : refusal_in N b ≡ 0) where
    pub planning_result : call_result N (planning N) b ≡ ready_result (answer (named N) (views_in (named N) b))
    unfolding accepted_result
    planning_result = made_result N (planning N) b (planning_refusal ∙ e)

    pub step_result_lem : call_result N step b ≡ answered (answer (named N) (views_in (named N) b)) (step_result (next_in (named N) b))
    unfolding accepted_result refusal_of
    step_result_lem = made_result N step b e

    pub run_result_lem : (j : ℕ)
        → call_result N (run j) b
        ≡ answered (answer (named N) (views_in (named N) b)) (run_result (stores_bytes (named N) j b) (next_in (named N) (steps_bytes (named N) j b)))
    unfolding accepted_result refusal_of
    run_result_lem j = made_result N (run j) b e

    pub run_bytes : (j : ℕ) → call_bytes N (run j) b ≡ steps_bytes (named N) j b
    unfolding refusal_of budget_of
    run_bytes j = made_bytes N (run j) b e

    pub step_bytes : call_bytes N step b ≡ steps_bytes (named N) 1 b
    unfolding refusal_of budget_of
    step_bytes = made_bytes N step b e

-- ---- a cluster is refused, waits or is ready
pub not_refused : (S : Setting) (b : Bytes) → may_lead S (views_in S b) ≡ true → same_firsts S (views_in S b) ≡ true → answer S (views_in S b) ≡ Refused → ⊥
unfolding answer
not_refused S b r f e = go (ltb (first_waiting S (views_in S b)) (end S (views_in S b))) (rw (r, f) at e)
  where
    go : (t : Bool) → cond t (Waiting (first_waiting S (views_in S b))) (Ready (end S (views_in S b))) ≡ Refused → ⊥
    go true x = let z : ◌≡◌ {A = ℕ} 0 1 = cc in omega arith
    go false x = let z : ◌≡◌ {A = ℕ} 0 1 = cc in omega arith

-- what a cluster has for which the rules answer
pub answers_with : (S : Setting) (W : ℕ → View) → (answer S W ≡ Refused → ⊥) → (may_lead S W ≡ true) × (same_firsts S W ≡ true)
unfolding answer
answers_with S W h = go (may_lead S W) (same_firsts S W) refl refl
  where
    go : (r f : Bool) → may_lead S W ≡ r → same_firsts S W ≡ f → (may_lead S W ≡ true) × (same_firsts S W ≡ true)
    go true true p q = (p, q)
    go true false p q = absurd (h (rw (p, q)))
    go false f p q = absurd (h (rw p))

-- an accepted cluster stays accepted while the planner's answer stays
pub refusal_kept : (N : Numbers) (a b : Bytes) → length a ≡ length b → answer (named N) (views_in (named N) a) ≡ answer (named N) (views_in (named N) b)
    → refusal_in N b ≡ 0 → refusal_in N a ≡ 0
unfolding setting_of
refusal_kept N a b l x e =
    let v = accepted N b e in
    let w = answers_with (named N) (views_in (named N) a) (λ q. not_refused (named N) b v.leads v.firsts (sym x ∙ q)) in
    cluster_cong N.shape N.leader N.present a b l (lead_reads (named N) (views_in (named N) a) w.0 ∙ sym v.readable) (w.1 ∙ sym v.firsts) ∙ e

pub data Standing (N : Numbers) (b : Bytes) : Type 0 where
  is_refused : (refusal_in N b ≡ 0 → ⊥) → Standing N b
  is_waiting : refusal_in N b ≡ 0 → (k : ℕ) → answer (named N) (views_in (named N) b) ≡ Waiting k → Standing N b
  is_ready : refusal_in N b ≡ 0 → (l : ℕ) → answer (named N) (views_in (named N) b) ≡ Ready l → Standing N b

pub standing : (N : Numbers) (b : Bytes) → Standing N b
standing N b = go (ℕ_discrete (refusal_in N b) 0)
  where
    by : refusal_in N b ≡ 0 → (a : Answer) → answer (named N) (views_in (named N) b) ≡ a → (a ≡ Refused → ⊥) → Standing N b
    by e Refused x h = absurd (h refl)
    by e (Waiting k) x h = is_waiting e k x
    by e (Ready l) x h = is_ready e l x

    go : Dec (refusal_in N b ≡ 0) → Standing N b
    go (yes e) = by e (answer (named N) (views_in (named N) b)) refl (not_refused (named N) b (accepted N b e).leads (accepted N b e).firsts)
    go (no h) = is_refused h
