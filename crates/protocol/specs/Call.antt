-- A planner, step or run call: what it names, and when it is refused.
use Rattle.std.specs.Prelude.{ℕ}
use Rattle.slices.specs.Parts.{Bytes}
use Rattle.record.specs.declared.Shape.{Shape}
use Rattle.planner.specs.Setting.{Setting, setting_of}
use Rattle.planner.specs.Plan.{cluster_refusal, plan_refusal}

-- a plan is lent buffers of so many bytes and rows; a run has a budget of stores
pub data Call : Type 0 where
  plan : (bytes rows : ℕ) → Call
  step : Call
  run : (budget : ℕ) → Call

-- the stores that a call may make
unfoldable pub budget_of : Call → ℕ
budget_of (plan p r) = 0
budget_of step = 1
budget_of (run j) = j

-- what calls name: a shape, the leader's number and the present set as a word
pub record Numbers : Type 0 where
  pub shape : Shape
  pub leader : ℕ
  pub present : ℕ

abbrev pub named : Numbers → Setting
named N = setting_of N.shape N.leader N.present

-- the refusal of a step, of a run, and of planning with the buffers it asks for
abbrev pub refusal_in : Numbers → Bytes → ℕ
refusal_in N b = cluster_refusal N.shape N.leader N.present b

unfoldable pub refusal_of : Numbers → Call → Bytes → ℕ
refusal_of N (plan p r) b = plan_refusal N.shape N.leader N.present b p r
refusal_of N step b = refusal_in N b
refusal_of N (run j) b = refusal_in N b
