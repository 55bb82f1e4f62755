-- The planner's answer in document 01's numbers, and the rows of its table.
use Rattle.std.specs.Prelude.{ℕ, suc, cond, List, eqb, length}
use Rattle.search.specs.Search.{one_if, listed}
use Rattle.slices.specs.Parts.{Bytes}
use Rattle.record.specs.declared.Shape.{Shape}
use Rattle.image.specs.Refusal.{unless_refused}
use Rattle.image.specs.View.{View}
use Rattle.image.specs.Answers.{Numbered, refused, value}
use Rattle.planner.specs.Setting.{Setting, setting_of}
use Rattle.planner.specs.Rules.{Answer, Refused, Waiting, Ready, answer}
use Rattle.planner.specs.Plan.{views_in, plan_refusal, plan_bytes, row_length, row_epoch}
use Rattle.planner.specs.declared.PlanAnswer.{PlanAnswer}
use Rattle.planner.specs.declared.PlanAnswer.TheVariants as plan
use Rattle.planner.specs.declared.ReplicaRow.{ReplicaRow}

-- 01's status and the answer's number: 0, ready, and the final length; 1, waiting, and the lowest waiting slot, by its number
abbrev pub plan_numbers : PlanAnswer → Numbered (ℕ × ℕ)
plan_numbers (plan.Ready l) = value (0, l)
plan_numbers (plan.Waiting k) = value (1, k)
plan_numbers (plan.Refused r) = refused r

-- the same of what the rules answer, whose slots count from 0. `Refused` is a call that is refused, by its own number
unfoldable pub answer_numbers : Answer → Numbered (ℕ × ℕ)
answer_numbers Refused = refused 12
answer_numbers (Waiting k) = value (1, suc k)
answer_numbers (Ready l) = value (0, l)

-- the refusal if there is one, else what the rules answer
unfoldable pub plan_numbered : ℕ → Answer → Numbered (ℕ × ℕ)
plan_numbered refusal a = cond (eqb refusal 0) (answer_numbers a) (refused refusal)

-- 01's row for a replica
unfoldable pub row_of : View → ReplicaRow
row_of v = record { readable = one_if v.readable; length = row_length v; last_epoch = row_epoch v }

unfoldable pub rows_of : Setting → (ℕ → View) → List ReplicaRow
rows_of S W = listed S.shape.n (λ c. row_of (W c))

-- the plan and the table of a cluster, of a shape, the leader's number and the present set
abbrev pub plan_in : Shape → ℕ → ℕ → Bytes → Bytes
plan_in Z leading present b = plan_bytes (setting_of Z leading present) (views_in (setting_of Z leading present) b)

abbrev pub rows_in : Shape → ℕ → ℕ → Bytes → List ReplicaRow
rows_in Z leading present b = rows_of (setting_of Z leading present) (views_in (setting_of Z leading present) b)

-- the planner's call with a lent plan and a lent table: its answer
abbrev pub plan_call_numbers : Shape → ℕ → ℕ → Bytes → ℕ → ℕ → Numbered (ℕ × ℕ)
plan_call_numbers Z leading present b plan rows =
    plan_numbered (plan_refusal Z leading present b plan rows) (answer (setting_of Z leading present) (views_in (setting_of Z leading present) b))

-- what it leaves in the plan and in the table
abbrev pub plan_left : Shape → ℕ → ℕ → Bytes → Bytes → ℕ → Bytes
plan_left Z leading present b plan rows = unless_refused (plan_refusal Z leading present b (length plan) rows) (plan_in Z leading present b) plan

abbrev pub rows_left : Shape → ℕ → ℕ → Bytes → ℕ → List ReplicaRow → List ReplicaRow
rows_left Z leading present b plan rows = unless_refused (plan_refusal Z leading present b plan (length rows)) (rows_in Z leading present b) rows
