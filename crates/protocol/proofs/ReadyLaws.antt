-- What the calls answer of a cluster whose plan is ready.
use Prim.Native.Nat.{ℕ}
use mathlib.Core.Path.{◌≡◌, ◌∙◌}
use Rattle.slices.specs.Parts.{Bytes}
use Rattle.planner.specs.Rules.{Ready, answer}
use Rattle.planner.specs.Plan.{views_in}
use Rattle.protocol.specs.StepBytes.{next_in, steps_bytes, stores_bytes}
use Rattle.protocol.specs.Call.{step, run, Numbers, named, refusal_in}
use Rattle.protocol.specs.CallResult.{ready, step_result, run_result, answered, ready_result, call_result, planning}
use Rattle.protocol.proofs.CallLaws.{planning_result, step_result_lem, run_result_lem}

module _ (N : Numbers) (b : Bytes) (e : refusal_in N b ≡ 0) (l : ℕ) (x : answer (named N) (views_in (named N) b) ≡ Ready l) where
  pub ready_run : (j : ℕ) → call_result N (run j) b ≡ run_result (stores_bytes (named N) j b) (next_in (named N) (steps_bytes (named N) j b))
  unfolding answered
  ready_run j = run_result_lem N b e j ∙ rw x

  pub ready_step : call_result N step b ≡ step_result (next_in (named N) b)
  unfolding answered
  ready_step = step_result_lem N b e ∙ rw x

  pub ready_plan : call_result N (planning N) b ≡ ready l
  unfolding ready_result
  ready_plan = planning_result N b e ∙ rw x
