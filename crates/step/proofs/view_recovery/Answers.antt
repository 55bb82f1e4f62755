-- `view_recovery` opens the cluster, and looks for a store if the plan is ready. Its log begins where the leader's does.
use mathlib.Core.Path.{◌≡◌, sym, ◌∙◌}
use Rattle.protocol.specs.Call.{named}
use Rattle.recovery.specs.Answers.{numbers}
use Rattle.recovery.proofs.OutlookLaws.{sees, in_range, end_fits, waits, stands_ready}
use native.Mathlib.Omega.{arith}
use borrow.Author.Rules.{rules}
use Rattle.step.proofs.view_recovery.Goals as goal

pub returns-then-waiting-end : goal.returns-then-waiting-end
returns-then-waiting-end c =
    let a = c.args in
    let N = numbers a.shape a.leading a.present in
    let b = a.cluster.now in
    let o = c.open_cluster-opening.ensures in
    let t : c.open_cluster-opening.result.refusal ≡ 0 = omega arith in
    let e = sym o.refusal ∙ t in
    let w = o.opened t in
    waits N b e w.survey_is w.plan_is (omega arith) (omega arith)

pub first_store-store-requires : goal.first_store-store-requires
first_store-store-requires c =
    let a = c.args in
    let N = numbers a.shape a.leading a.present in
    let b = a.cluster.now in
    let o = c.open_cluster-opening.ensures in
    let t : c.open_cluster-opening.result.refusal ≡ 0 = omega arith in
    let e = sym o.refusal ∙ t in
    let w = o.opened t in
    (in_range N b e w.survey_is, end_fits N b e w.survey_is w.plan_is)

pub offset_bounds-survey-leader : goal.offset_bounds-survey-leader
offset_bounds-survey-leader c =
    let o = c.open_cluster-opening.ensures in
    let v = (o.opened (omega arith)).survey_is in
    let l = v.leader_below in
    let n = v.few in
    search rules

pub bounds-survey-leader : goal.bounds-survey-leader
bounds-survey-leader c =
    let o = c.open_cluster-opening.ensures in
    let v = (o.opened (omega arith)).survey_is in
    let l = v.leader_below in
    let n = v.few in
    search rules

pub returns : goal.returns
returns c =
    let a = c.args in
    let N = numbers a.shape a.leading a.present in
    let b = a.cluster.now in
    let o = c.open_cluster-opening.ensures in
    let t : c.open_cluster-opening.result.refusal ≡ 0 = omega arith in
    let e = sym o.refusal ∙ t in
    let w = o.opened t in
    let f = c.first_store-store in
    stands_ready N b e w.survey_is w.plan_is (omega arith) f.result (f.ensures (named N) (sees N b e w.survey_is) w.plan_is) (omega arith)
