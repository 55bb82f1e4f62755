use mathlib.Core.Path.{sym, ◌∙◌}
use Rattle.planner.specs.Setting.{setting_of}
use Rattle.planner.proofs.LentLaws.{refusal_is, lent_zero, lent_bytes}
use Rattle.planner.proofs.OutcomeLaws.{outcome_at, left_alone, rows_ask, planned_outcome, slots_there, copy_asks, bytes_filled}
use Rattle.plan_bytes.proofs.plan_bytes.Goals as goal

pub returns-then-refusal-ne0 : goal.returns-then-refusal-ne0
returns-then-refusal-ne0 c =
    let r = refusal_is _ _ _ _ _ _ c.lent_refusal-refusal.ensures c.open_cluster-opening.ensures.refusal in
    (outcome_at r (c.refused.ensures _ _), left_alone _ _ _ (λ z. c.if-refusal-ne0.true (r ∙ z)))

pub slice_bounds-copy_bytes-end : goal.slice_bounds-copy_bytes-end
slice_bounds-copy_bytes-end c =
    let o = c.open_cluster-opening.ensures.opened (lent_zero _ _ _ _ c.lent_refusal-refusal.ensures c.if-refusal-ne0.false) in
    slots_there _ _ _ o.survey_is o.plan_is

pub copy_bytes-requires : goal.copy_bytes-requires
copy_bytes-requires c =
    let o = c.open_cluster-opening.ensures.opened (lent_zero _ _ _ _ c.lent_refusal-refusal.ensures c.if-refusal-ne0.false) in
    copy_asks _ _ _ o.survey_is o.plan_is (lent_bytes _ _ _ _ c.lent_refusal-refusal.ensures c.if-refusal-ne0.false)

pub survey_rows-rows-requires : goal.survey_rows-rows-requires
survey_rows-rows-requires c =
    let o = c.open_cluster-opening.ensures.opened (lent_zero _ _ _ _ c.lent_refusal-refusal.ensures c.if-refusal-ne0.false) in
    rows_ask _ _ o.survey_is

pub returns : goal.returns
unfolding setting_of
returns c =
    let o = c.open_cluster-opening.ensures.opened (lent_zero _ _ _ _ c.lent_refusal-refusal.ensures c.if-refusal-ne0.false) in
    let a = c.args in
    let z = sym (refusal_is _ _ _ _ _ _ c.lent_refusal-refusal.ensures c.open_cluster-opening.ensures.refusal) ∙ c.if-refusal-ne0.false in
    (planned_outcome _ _ o.survey_is z o.plan_is c.plan_answer-answer.ensures (c.survey_rows-rows.ensures.sized, c.survey_rows-rows.ensures.rows), bytes_filled a.shape a.leading a.present o.survey_is o.plan_is a.plan.now z c.copy_bytes.ensures)
