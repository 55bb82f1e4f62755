use Rattle.call_clusters.proofs.ClusterCallLaws.{step_answered}
use mathlib.Core.Path.{refl}
use native.Mathlib.Omega.{arith}
use Rattle.call_clusters.proofs.steps.step.Goals as goal

pub returns-in-Stored : goal.returns-in-Stored
returns-in-Stored c =
    let e = c.step_cluster.ensures in
    step_answered _ _ _ _ _ c.in-Stored.is e.answer e.bytes _ _ _ _ refl (omega arith) (omega arith) (omega arith) (omega arith)

pub returns-in-Recovered : goal.returns-in-Recovered
returns-in-Recovered c =
    let e = c.step_cluster.ensures in
    step_answered _ _ _ _ _ c.in-Recovered.is e.answer e.bytes _ _ _ _ refl refl refl refl refl

pub returns-in-Waiting : goal.returns-in-Waiting
returns-in-Waiting c =
    let e = c.step_cluster.ensures in
    step_answered _ _ _ _ _ c.in-Waiting.is e.answer e.bytes _ _ _ _ refl (omega arith) refl (omega arith) refl

pub returns-in-Refused : goal.returns-in-Refused
returns-in-Refused c =
    let e = c.step_cluster.ensures in
    step_answered _ _ _ _ _ c.in-Refused.is e.answer e.bytes _ _ _ _ (omega arith) refl refl refl refl
