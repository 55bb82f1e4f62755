-- `followers_store` passes the replicas that have nothing to get.
use Rattle.std.proofs.Common.{◌≡◌, ℕ, ◌<◌, false}
use Rattle.planner.specs.Setting.{Setting}
use Rattle.protocol.specs.Recovery.{is_some, due}
use Rattle.recovery.specs.Look.{Sees, cluster_in}
use Rattle.pick.proofs.followers_store.Given as goal

abbrev pub invariant-loop-c : goal.invariant-loop-c
invariant-loop-c l = (S : Setting) → Sees S l.cluster l.shape l.leader l.survey → ((j : ℕ) → j < l.from → is_some (due S (cluster_in S l.cluster) j) ≡ false)
    → (j : ℕ) → j < l.c → is_some (due S (cluster_in S l.cluster) j) ≡ false
