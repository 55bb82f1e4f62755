use Prim.Native.Nat.{ℕ, ◌-◌}
use mathlib.Core.Path.{◌≡◌, sym, ◌∙◌}
use mathlib.Core.Bool.{not}
use mathlib.Core.List.{List}
use native.Mathlib.Omega.{arith}
use Rattle.image.specs.Refusal.{refuse}
use Rattle.planner.specs.Survey.{leader_test, same_numbers}
use Rattle.image.proofs.CallLaws.{size_high}
use Rattle.planner.proofs.ShapeLaws.{shaped_size, shaped_slots, shaped_bytes}
use Rattle.planner.proofs.CallLaws.{cluster_shape, cluster_leader, leader_within, cluster_firsts, cluster_survey}
use Rattle.survey_open.proofs.view_cluster.Goals as goal

-- the leader is looked for among the readable replicas
asked : {r set boxes : ℕ} (n leading readable witnesses : ℕ) → r ≡ leader_test set boxes n leading → set ≡ readable → boxes ≡ witnesses
    → r ≡ leader_test readable witnesses n leading
asked n leading readable witnesses e q s = rw (q, s) at e

-- the first indices are compared with the leader's, which counts from 0
led : {r lead : ℕ} (n leading readable : ℕ) (firsts : List ℕ) → r ≡ refuse 21 (not (same_numbers n lead readable firsts)) → lead ≡ leading - 1
    → r ≡ refuse 21 (not (same_numbers n (leading - 1) readable firsts))
led n leading readable firsts e q = rw q at e

pub returns-then-refusal-ne0 : goal.returns-then-refusal-ne0
returns-then-refusal-ne0 c =
    record { refusal = cluster_shape _ _ _ _ c.shape_refusal-refusal.ensures c.if-refusal-ne0.true; survey = λ e. absurd (c.if-refusal-ne0.true e) }

pub survey_cluster-survey-requires : goal.survey_cluster-survey-requires
survey_cluster-survey-requires c =
    (shaped_size _ _ _ (sym c.shape_refusal-refusal.ensures ∙ c.if-refusal-ne0.false), shaped_slots _ _ _ (sym c.shape_refusal-refusal.ensures ∙ c.if-refusal-ne0.false), shaped_bytes _ _ _ (sym c.shape_refusal-refusal.ensures ∙ c.if-refusal-ne0.false))

pub leader_refusal-unled-requires : goal.leader_refusal-unled-requires
leader_refusal-unled-requires c =
    size_high _ (shaped_size _ _ _ (sym c.shape_refusal-refusal.ensures ∙ c.if-refusal-ne0.false))

pub returns-then-unled-ne0 : goal.returns-then-unled-ne0
returns-then-unled-ne0 c =
    let z = sym c.shape_refusal-refusal.ensures ∙ c.if-refusal-ne0.false in
    record { refusal = cluster_leader _ _ _ _ z _ _ _ _ _ (c.survey_cluster-survey.ensures _) (asked _ _ _ _ c.leader_refusal-unled.ensures (omega arith) (omega arith)) (λ e. omega arith); survey = λ e. absurd (omega arith) }

pub overflow_sub-leading : goal.overflow_sub-leading
overflow_sub-leading c =
    let z = sym c.shape_refusal-refusal.ensures ∙ c.if-refusal-ne0.false in
    omega (arith, (leader_within _ _ _ _ z _ _ _ _ _ (c.survey_cluster-survey.ensures _) (asked _ _ _ _ c.leader_refusal-unled.ensures (omega arith) (omega arith)) (omega arith)).0)

pub firsts_refusal-refusal-requires : goal.firsts_refusal-refusal-requires
firsts_refusal-refusal-requires c =
    let z = sym c.shape_refusal-refusal.ensures ∙ c.if-refusal-ne0.false in
    (size_high _ (shaped_size _ _ _ z), omega (arith, (leader_within _ _ _ _ z _ _ _ _ _ (c.survey_cluster-survey.ensures _) (asked _ _ _ _ c.leader_refusal-unled.ensures (omega arith) (omega arith)) (omega arith)).1))

pub returns : goal.returns
returns c =
    let z = sym c.shape_refusal-refusal.ensures ∙ c.if-refusal-ne0.false in
    record { refusal = cluster_firsts _ _ _ _ z _ _ _ _ _ (c.survey_cluster-survey.ensures _) (asked _ _ _ _ c.leader_refusal-unled.ensures (omega arith) (omega arith)) (omega arith) (led _ _ _ _ c.firsts_refusal-refusal.ensures (omega arith)); survey = λ e. cluster_survey _ _ _ _ z _ _ _ _ _ (c.survey_cluster-survey.ensures _) (asked _ _ _ _ c.leader_refusal-unled.ensures (omega arith) (omega arith)) (omega arith) (sym (led _ _ _ _ c.firsts_refusal-refusal.ensures (omega arith)) ∙ e) }
