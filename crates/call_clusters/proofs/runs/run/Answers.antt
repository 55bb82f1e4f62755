use Rattle.call_clusters.proofs.ClusterCallLaws.{run_answered}
use mathlib.Core.Path.{refl}
use native.Mathlib.Omega.{arith}
use Rattle.call_clusters.proofs.runs.run.Goals as goal

pub returns-in-Recovered : goal.returns-in-Recovered
returns-in-Recovered c =
    let e = c.run_cluster.ensures in
    run_answered _ _ _ _ _ c.in-Recovered.is e.answer e.bytes _ _ _ refl (omega arith) (omega arith) refl

pub returns-in-Spent : goal.returns-in-Spent
returns-in-Spent c =
    let e = c.run_cluster.ensures in
    run_answered _ _ _ _ _ c.in-Spent.is e.answer e.bytes _ _ _ refl (omega arith) (omega arith) refl

pub returns-in-Waiting : goal.returns-in-Waiting
returns-in-Waiting c =
    let e = c.run_cluster.ensures in
    run_answered _ _ _ _ _ c.in-Waiting.is e.answer e.bytes _ _ _ refl (omega arith) (omega arith) (omega arith)

pub returns-in-Refused : goal.returns-in-Refused
returns-in-Refused c =
    let e = c.run_cluster.ensures in
    run_answered _ _ _ _ _ c.in-Refused.is e.answer e.bytes _ _ _ (omega arith) refl refl refl
