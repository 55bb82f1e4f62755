-- The call that plans a cluster as one contract, which the call cites and its export says in full. It takes what the call takes, in its order, of all that is
-- lent to be written the old and the new content, and then the answer.
use Rattle.std.specs.Prelude.{ℕ, ◌≡◌, List, length}
use Rattle.slices.specs.Parts.{Bytes}
use Rattle.record.specs.declared.Shape.{Shape}
use Rattle.image.specs.Refusal.{unless_refused}
use Rattle.planner.specs.declared.ReplicaRow.{ReplicaRow}
use Rattle.planner.specs.Answers.{plan_in, rows_in}
use Rattle.recovery.specs.HandedOut.{plan_called, result_refusal, result_status, result_number}

abbrev pub PlanCall : Bytes → Shape → ℕ → ℕ → Bytes → Bytes → List ReplicaRow → List ReplicaRow → ℕ → ℕ → ℕ → ℕ → ℕ → Type 0
PlanCall b Z leading present bytes bytes' rows rows' status status' number number' r =
    (r ≡ result_refusal (plan_called Z leading present b (length bytes) (length rows))) × (bytes' ≡ unless_refused r (plan_in Z leading present b) bytes)
    × (rows' ≡ unless_refused r (rows_in Z leading present b) rows)
    × (status' ≡ result_status (plan_called Z leading present b (length bytes) (length rows)) status)
    × (number' ≡ result_number (plan_called Z leading present b (length bytes) (length rows)) number)
