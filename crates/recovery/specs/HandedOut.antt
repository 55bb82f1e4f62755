-- What the calls about a cluster hand out, by what they answer.
use Rattle.std.specs.Prelude.{ℕ}
use Rattle.slices.specs.Parts.{Bytes}
use Rattle.record.specs.declared.Shape.{Shape}
use Rattle.protocol.specs.Call.{plan, step, run}
use Rattle.protocol.specs.CallResult.{Result, refused, waiting, ready, stored, recovered, spent, call_result}
use Rattle.recovery.specs.Answers.{numbers}

-- what the calls answer, of a shape, the leader's number, the present set and the cluster
abbrev pub plan_called : Shape → ℕ → ℕ → Bytes → ℕ → ℕ → Result
plan_called Z leading present b bytes rows = call_result (numbers Z leading present) (plan bytes rows) b

abbrev pub step_called : Shape → ℕ → ℕ → Bytes → Result
step_called Z leading present b = call_result (numbers Z leading present) step b

abbrev pub run_called : Shape → ℕ → ℕ → Bytes → ℕ → Result
run_called Z leading present b budget = call_result (numbers Z leading present) (run budget) b

-- the refusal in what a call answers; 0 if it is none
abbrev pub result_refusal : Result → ℕ
result_refusal (refused r) = r
result_refusal (waiting k) = 0
result_refusal (ready l) = 0
result_refusal (stored c k kind) = 0
result_refusal (recovered count) = 0
result_refusal (spent count) = 0

-- planning: 0 ready, 1 waiting. Step and run: 0 no store is outstanding, 1 waiting, 2 one is made (a step) or is still outstanding (a run)
abbrev pub result_status : Result → ℕ → ℕ
result_status (refused r) old = old
result_status (waiting k) old = 1
result_status (ready l) old = 0
result_status (stored c k kind) old = 2
result_status (recovered count) old = 0
result_status (spent count) old = 2

-- planning: the final length, or the lowest waiting slot's number; elsewhere what was there
abbrev pub result_number : Result → ℕ → ℕ
result_number (refused r) old = old
result_number (waiting k) old = k
result_number (ready l) old = l
result_number (stored c k kind) old = old
result_number (recovered count) old = old
result_number (spent count) old = old

-- a store's replica, slot and kind, and the waiting slot, by their numbers; elsewhere what was there
abbrev pub result_replica : Result → ℕ → ℕ
result_replica (refused r) old = old
result_replica (waiting k) old = old
result_replica (ready l) old = old
result_replica (stored c k kind) old = c
result_replica (recovered count) old = old
result_replica (spent count) old = old

abbrev pub result_slot : Result → ℕ → ℕ
result_slot (refused r) old = old
result_slot (waiting k) old = k
result_slot (ready l) old = old
result_slot (stored c k kind) old = k
result_slot (recovered count) old = old
result_slot (spent count) old = old

abbrev pub result_kind : Result → ℕ → ℕ
result_kind (refused r) old = old
result_kind (waiting k) old = old
result_kind (ready l) old = old
result_kind (stored c k kind) old = kind
result_kind (recovered count) old = old
result_kind (spent count) old = old

-- of a run alone: how many stores it made, 0 if it waits
abbrev pub result_stores : Result → ℕ → ℕ
result_stores (refused r) old = old
result_stores (waiting k) old = 0
result_stores (ready l) old = old
result_stores (stored c k kind) old = old
result_stores (recovered count) old = count
result_stores (spent count) old = count
