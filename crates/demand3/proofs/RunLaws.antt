-- The counts and ends of runs, from any cluster.
use Prim.Native.Nat.{ℕ, suc, ◌<◌}
use mathlib.Core.Path.{◌≡◌, refl, sym, ap, ◌∙◌}
use mathlib.Core.Option.{Option, none, some}
use native.Mathlib.Omega.{arith}
use Rattle.slices.specs.Parts.{Bytes}
use Rattle.planner.specs.Setting.{setting_of}
use Rattle.planner.specs.Rules.{Ready, answer}
use Rattle.planner.specs.Plan.{views_in}
use Rattle.protocol.specs.Store.{Store}
use Rattle.protocol.specs.StepBytes.{next_in, steps_bytes, stores_bytes}
use Rattle.protocol.specs.Call.{run, Numbers, named, refusal_in}
use Rattle.protocol.specs.CallResult.{refused, waiting, spent, run_result, call_result, is_spent, is_stored}
use Rattle.demand3.specs.Claim.{Runs}
use Rattle.protocol.proofs.CallLaws.{Standing, is_refused, is_waiting, is_ready, standing, run_bytes}
use Rattle.protocol.proofs.Reached.{Unsupposed, after_run}
use Rattle.protocol.proofs.StepCountLaws.{few}
use Rattle.demand3.proofs.ResultLaws.{run_count, run_spent, step_stored}
use Rattle.demand3.proofs.UncutLaws.{after_none}
use Rattle.protocol.proofs.StillLaws.{still_refused, still_waiting}
use Rattle.protocol.proofs.ReadyLaws.{ready_run, ready_step}
use Rattle.demand3.proofs.QuietLaws.{refused_quiet, waiting_quiet, runs_still}

module _ (N : Numbers) (b : Bytes) (e : refusal_in N b ≡ 0) (l : ℕ) (x : answer (named N) (views_in (named N) b) ≡ Ready l) where
  facts : Unsupposed (named N) b b
  facts = (after_none N b e).facts

  small : (i j : ℕ) → i < stores_bytes (named N) j b → call_result N (run i) b ≡ spent i
  unfolding run_result
  small i j h = go (next_in (named N) (steps_bytes (named N) i b)) refl
    where
      go : (o : Option Store) → next_in (named N) (steps_bytes (named N) i b) ≡ o → call_result N (run i) b ≡ spent i
      go none q = absurd (omega (arith, few (named N) i j b q))
      go (some s) q = ready_run N b e l x i ∙ rw (q, facts.spent i s q)

  all_used : (j c : ℕ) (o : Option Store) → next_in (named N) (steps_bytes (named N) j b) ≡ o → run_result (stores_bytes (named N) j b) o ≡ spent c → c ≡ j
  unfolding run_result
  all_used j c none q y = absurd (let z : ◌≡◌ {A = ℕ} 0 1 = cc in omega arith)
  all_used j c (some s) q y = let z = facts.spent j s q in cc

  runs_ready : Runs N b
  unfolding setting_of is_spent run_result
  runs_ready = record {
    counted = λ j. rw (ready_run N b e l x j, run_count) (run_bytes N b e (stores_bytes (named N) j b) ∙ facts.counted j ∙ sym (run_bytes N b e j));
    smaller = λ i j h. small i j (rw (ready_run N b e l x j, run_count) at h);
    bounded = λ j. rw (ready_run N b e l x j, run_count) (facts.bounded j);
    outstanding = λ j.
        let a = steps_bytes (named N) j b in
        let v = after_run N b e j in
        ap is_spent (ready_run N b e l x j)
        ∙ run_spent (stores_bytes (named N) j b) (next_in (named N) a)
        ∙ sym (rw (run_bytes N b e j) (ap is_stored (ready_step N a v.accepts l (v.facts.answers ∙ x)) ∙ step_stored (next_in (named N) a)));
    budget = λ j c y. all_used j c (next_in (named N) (steps_bytes (named N) j b)) refl (sym (ready_run N b e l x j) ∙ y);
    enough = λ j h. ap is_spent (ready_run N b e l x j) ∙ rw (facts.unspent j h);
  }

pub runs : (N : Numbers) (b : Bytes) → Runs N b
runs N b = go (standing N b)
  where
    go : Standing N b → Runs N b
    go (is_refused h) = runs_still N b (refused (refusal_in N b)) (still_refused N b h) (refused_quiet (refusal_in N b))
    go (is_waiting e k x) = runs_still N b (waiting (suc k)) (still_waiting N b e k x) (waiting_quiet (suc k))
    go (is_ready e l x) = runs_ready N b e l x
