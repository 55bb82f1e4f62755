use mathlib.Core.Path.{refl}
use Rattle.planner.proofs.PlanLaws.{survey_end_le, plan_of}
use native.Mathlib.Omega.{arith}
use borrow.Author.Rules.{rules}
use Rattle.decide.proofs.plan_survey.Goals as goal

pub mark_truncated-bytes-requires : goal.mark_truncated-bytes-requires
mark_truncated-bytes-requires c =
    (survey_end_le _ _ _ _ _ _ c.walk_slots-walk.ensures.end, search rules)

pub first_waiting-waiting-requires : goal.first_waiting-waiting-requires
first_waiting-waiting-requires c =
    omega (arith, survey_end_le _ _ _ _ _ _ c.walk_slots-walk.ensures.end)

pub returns : goal.returns
returns c =
    plan_of _ _ _ _ _ _ _ _ refl (omega arith) (omega arith) c.walk_slots-walk.ensures.end c.walk_slots-walk.ensures.walked c.mark_truncated-bytes.ensures c.first_waiting-waiting.ensures
