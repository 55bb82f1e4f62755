-- A cluster that is refused or waits: every call answers alike and no byte changes.
use Prim.Native.Nat.{ℕ, suc}
use mathlib.Core.Path.{◌≡◌, ap, ◌∙◌}
use Rattle.slices.specs.Parts.{Bytes}
use Rattle.planner.specs.Rules.{Waiting, answer}
use Rattle.planner.specs.Plan.{views_in}
use Rattle.protocol.specs.StepBytes.{next_in}
use Rattle.protocol.specs.Call.{step, run, Numbers, named, refusal_in}
use Rattle.protocol.specs.CallResult.{Result, refused, waiting, answered, ready_result, call_result, call_bytes, planning}
use Rattle.protocol.proofs.CallLaws.{planning_refused, step_refused, run_refused, run_kept, planning_result, step_result_lem, run_result_lem, run_bytes}
use Rattle.protocol.proofs.Reached.{waiting_none}
use Rattle.protocol.proofs.StepCountLaws.{steps_still}

pub record Still (N : Numbers) (b : Bytes) (r : Result) : Type 0 where
  pub plans : call_result N (planning N) b ≡ r
  pub steps : call_result N step b ≡ r
  pub runs : (j : ℕ) → call_result N (run j) b ≡ r
  pub bytes : (j : ℕ) → call_bytes N (run j) b ≡ b

pub still_refused : (N : Numbers) (b : Bytes) → (refusal_in N b ≡ 0 → ⊥) → Still N b (refused (refusal_in N b))
still_refused N b h = record { plans = planning_refused N b h; steps = step_refused N b h; runs = run_refused N b h; bytes = run_kept N b h }

pub still_waiting : (N : Numbers) (b : Bytes) → refusal_in N b ≡ 0 → (k : ℕ) → answer (named N) (views_in (named N) b) ≡ Waiting k → Still N b (waiting (suc k))
unfolding ready_result answered next_in
still_waiting N b e k x = record {
  plans = planning_result N b e ∙ ap ready_result x;
  steps = step_result_lem N b e ∙ rw x;
  runs = λ j. run_result_lem N b e j ∙ rw x;
  bytes = λ j. run_bytes N b e j ∙ steps_still (named N) j b (waiting_none (named N) b k x);
}
