-- The answers of step and run in document 01's numbers, each enum by its cases; the planner's are in planner/specs/Answers.antt.
use Rattle.std.specs.Prelude.{ℕ, cond, eqb}
use Rattle.record.specs.declared.Shape.{Shape}
use Rattle.image.specs.Answers.{Numbered}
use Rattle.image.specs.Answers as numbered
use Rattle.protocol.specs.Call.{Numbers}
use Rattle.protocol.specs.CallResult.{Result, refused, waiting, ready, stored, recovered, spent, count_of}
use Rattle.recovery.specs.declared.StepAnswer.{StepAnswer}
use Rattle.recovery.specs.declared.StepAnswer.TheVariants as step
use Rattle.recovery.specs.declared.RunAnswer.{RunAnswer}
use Rattle.recovery.specs.declared.RunAnswer.TheVariants as run

-- what a call names; the leader by its number
abbrev pub numbers : Shape → ℕ → ℕ → Numbers
numbers Z leading present = record { shape = Z; leader = leading; present = present }

-- the result of a plan call by the planner's numbers: the refusal, or status 0 and the final length, else the lowest waiting slot
abbrev pub plan_result : Numbered (ℕ × ℕ) → Result
plan_result (numbered.refused r) = refused r
plan_result (numbered.value x) = cond (eqb x.0 0) (ready x.1) (waiting x.1)

-- a store's replica, slot and kind; 01's settled; the lowest waiting slot; the refusal
abbrev pub step_answer_result : StepAnswer → Result
step_answer_result (step.Stored c k kind) = stored c k kind
step_answer_result step.Recovered = recovered 0
step_answer_result (step.Waiting k) = waiting k
step_answer_result (step.Refused r) = refused r

-- settled or spent, after so many stores; the lowest waiting slot; the refusal. Each beside the count of stores
abbrev pub run_answer_result : RunAnswer → Result × ℕ
run_answer_result (run.Recovered count) = (recovered count, count)
run_answer_result (run.Spent count) = (spent count, count)
run_answer_result (run.Waiting k count) = (waiting k, count)
run_answer_result (run.Refused r) = (refused r, 0)

-- a result beside its count of stores: a run that waits or is refused counts 0
abbrev pub counted : Result → Result × ℕ
counted x = (x, count_of x)
