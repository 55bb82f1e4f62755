-- The planner's contract is the plan case of a call's effect, over which demand 3 is proved.
use Rattle.std.specs.Prelude.{ℕ, ◌≡◌}
use Rattle.slices.specs.Parts.{Bytes}
use Rattle.record.specs.declared.Shape.{Shape}
use Rattle.planner.specs.Answers.{plan_call_numbers}
use Rattle.protocol.specs.Call.{plan}
use Rattle.protocol.specs.CallResult.{call_result, call_bytes}
use Rattle.recovery.specs.Answers.{numbers, plan_result}

pub record PlanCall : Type 0 where
  -- the answer, lent buffers of any sizes
  pub result_is : (Z : Shape) (leading present : ℕ) (b : Bytes) (bytes rows : ℕ) →
      plan_result (plan_call_numbers Z leading present b bytes rows) ≡ call_result (numbers Z leading present) (plan bytes rows) b
  -- the planner changes no byte of the cluster
  pub bytes_kept : (Z : Shape) (leading present : ℕ) (b : Bytes) (bytes rows : ℕ) → call_bytes (numbers Z leading present) (plan bytes rows) b ≡ b
