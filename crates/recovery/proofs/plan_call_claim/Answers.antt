use Rattle.recovery.specs.Answers.{numbers}
use Rattle.recovery.proofs.PlanCallLaws.{plan_result_lem, plan_kept}
use Rattle.recovery.proofs.plan_call_claim.Goals as goal

pub returns : goal.returns
returns c =
    record {
      result_is = λ Z leader present b bytes rows. plan_result_lem (numbers Z leader present) b bytes rows;
      bytes_kept = λ Z leader present b bytes rows. plan_kept (numbers Z leader present) b bytes rows;
    }
