-- The effect of a call: its answer in document 01's numbers, and the bytes that it leaves.
use Rattle.std.specs.Prelude.{ℕ, suc, ◌*◌, Bool, true, false, cond, eqb}
use Rattle.std.proofs.Math.Option.{Option, none, some}
use Rattle.slices.specs.Parts.{Bytes}
use Rattle.planner.specs.Rules.{Answer, Refused, Waiting, Ready, answer}
use Rattle.planner.specs.Plan.{views_in}
use Rattle.protocol.specs.Store.{Store, store_replica, store_slot, store_kind}
use Rattle.protocol.specs.StepBytes.{next_in, steps_bytes, stores_bytes}
use Rattle.protocol.specs.Call.{Call, plan, step, run, Numbers, named, budget_of, refusal_of}

-- what a call answers. Slots and replicas by their numbers, from 1
pub data Result : Type 0 where
  -- refused by this number
  refused : ℕ → Result
  -- the plan waits; the lowest waiting slot
  waiting : ℕ → Result
  -- planning: ready, with the final length
  ready : ℕ → Result
  -- a step made a store: replica, slot, and kind (1 entry, 2 record, 3 blank record)
  stored : ℕ → ℕ → ℕ → Result
  -- 01's settled: no store is outstanding, after so many
  recovered : ℕ → Result
  -- the budget is used and a store is outstanding, after so many
  spent : ℕ → Result

-- a step's answer, by the store that it makes
unfoldable pub step_result : Option Store → Result
step_result none = recovered 0
step_result (some s) = stored (suc (store_replica s)) (suc (store_slot s)) (store_kind s)

-- a run's, by the stores that it made and the one that is then outstanding
unfoldable pub run_result : ℕ → Option Store → Result
run_result count none = recovered count
run_result count (some s) = spent count

-- what is answered where the planner's answer is this; it is not refused here
unfoldable pub answered : Answer → Result → Result
answered Refused r = refused 12
answered (Waiting k) r = waiting (suc k)
answered (Ready l) r = r

-- the length that the plan ends with
unfoldable pub ready_result : Answer → Result
ready_result Refused = refused 12
ready_result (Waiting k) = waiting (suc k)
ready_result (Ready l) = ready l

unfoldable pub accepted_result : Numbers → Call → Bytes → Result
accepted_result N (plan p r) b = ready_result (answer (named N) (views_in (named N) b))
accepted_result N step b = answered (answer (named N) (views_in (named N) b)) (step_result (next_in (named N) b))
accepted_result N (run j) b =
    answered (answer (named N) (views_in (named N) b))
    (run_result (stores_bytes (named N) j b) (next_in (named N) (steps_bytes (named N) j b)))

unfoldable pub call_result : Numbers → Call → Bytes → Result
call_result N q b = cond (eqb (refusal_of N q b) 0) (accepted_result N q b) (refused (refusal_of N q b))

-- the cluster afterwards: so many steps; a refused call changes no byte
unfoldable pub call_bytes : Numbers → Call → Bytes → Bytes
call_bytes N q b = cond (eqb (refusal_of N q b) 0) (steps_bytes (named N) (budget_of q) b) b

-- ---- what is asked of results

-- the planner's call, lent buffers of the sizes that it asks for
abbrev pub planning : Numbers → Call
planning N = plan N.shape.m N.shape.n

-- stores enough for every run
abbrev pub bound : Numbers → ℕ
bound N = 3 * N.shape.n * N.shape.m

-- the stores that a run counts
unfoldable pub count_of : Result → ℕ
count_of (refused r) = 0
count_of (waiting k) = 0
count_of (ready l) = 0
count_of (stored c k i) = 0
count_of (recovered c) = c
count_of (spent c) = c

-- how a call ends, its count apart
unfoldable pub without_count : Result → Result
without_count (refused r) = refused r
without_count (waiting k) = waiting k
without_count (ready l) = ready l
without_count (stored c k i) = stored c k i
without_count (recovered c) = recovered 0
without_count (spent c) = spent 0

-- how a run that is not spent ends, by the planner's result: ready ends recovered
unfoldable pub run_end : Result → Result
run_end (refused r) = refused r
run_end (waiting k) = waiting k
run_end (ready l) = recovered 0
run_end (stored c k i) = stored c k i
run_end (recovered c) = recovered c
run_end (spent c) = spent c

unfoldable pub is_spent : Result → Bool
is_spent (refused r) = false
is_spent (waiting k) = false
is_spent (ready l) = false
is_spent (stored c k i) = false
is_spent (recovered c) = false
is_spent (spent c) = true

unfoldable pub is_stored : Result → Bool
is_stored (refused r) = false
is_stored (waiting k) = false
is_stored (ready l) = false
is_stored (stored c k i) = true
is_stored (recovered c) = false
is_stored (spent c) = false
