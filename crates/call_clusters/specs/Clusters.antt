-- The calls that recover a cluster: each as one contract, which the call cites and its export says in full. A contract takes what the call takes, in its
-- order, of all that is lent to be written the old and the new content, and then the answer.
use Rattle.std.specs.Prelude.{ℕ, ◌≡◌}
use Rattle.slices.specs.Parts.{Bytes}
use Rattle.record.specs.declared.Shape.{Shape}
use Rattle.protocol.specs.Call.{step, run}
use Rattle.protocol.specs.CallResult.{call_bytes}
use Rattle.recovery.specs.Answers.{numbers}
use Rattle.recovery.specs.HandedOut.{step_called, run_called, result_refusal, result_status, result_replica, result_slot, result_kind, result_stores}

abbrev pub StepCall : Bytes → Bytes → Shape → ℕ → ℕ → ℕ → ℕ → ℕ → ℕ → ℕ → ℕ → ℕ → ℕ → ℕ → Type 0
StepCall old new Z leading present status status' replica replica' slot slot' kind kind' r =
    (r ≡ result_refusal (step_called Z leading present old)) × (new ≡ call_bytes (numbers Z leading present) step old)
    × (status' ≡ result_status (step_called Z leading present old) status) × (replica' ≡ result_replica (step_called Z leading present old) replica)
    × (slot' ≡ result_slot (step_called Z leading present old) slot) × (kind' ≡ result_kind (step_called Z leading present old) kind)

abbrev pub RunCall : Bytes → Bytes → Shape → ℕ → ℕ → ℕ → ℕ → ℕ → ℕ → ℕ → ℕ → ℕ → ℕ → Type 0
RunCall old new Z leading present budget status status' stores stores' slot slot' r =
    (r ≡ result_refusal (run_called Z leading present old budget)) × (new ≡ call_bytes (numbers Z leading present) (run budget) old)
    × (status' ≡ result_status (run_called Z leading present old budget) status) × (stores' ≡ result_stores (run_called Z leading present old budget) stores)
    × (slot' ≡ result_slot (run_called Z leading present old budget) slot)
