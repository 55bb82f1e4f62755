-- The status that a call about a cluster hands out, in sentences.
use Rattle.std.specs.Prelude.{ℕ, ◌≡◌}
use Rattle.protocol.specs.CallResult.{waiting, ready, stored, recovered, spent}
use Rattle.recovery.specs.HandedOut.{result_status}

pub record Statuses : Type 0 where
  -- a plan is ready or waits
  pub ready_is_0 : (l old : ℕ) → result_status (ready l) old ≡ 0
  pub waiting_is_1 : (k old : ℕ) → result_status (waiting k) old ≡ 1
  -- no store is outstanding, one was made, or one is still outstanding
  pub recovered_is_0 : (count old : ℕ) → result_status (recovered count) old ≡ 0
  pub stored_is_2 : (c k kind old : ℕ) → result_status (stored c k kind) old ≡ 2
  pub spent_is_2 : (count old : ℕ) → result_status (spent count) old ≡ 2
