use Rattle.planner.proofs.SetLaws.{test_has}
use Rattle.survey_sets.proofs.contains.Goals as goal

pub returns : goal.returns
returns c =
    test_has _ _
