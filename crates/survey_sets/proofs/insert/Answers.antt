use Rattle.planner.proofs.SetLaws.{or_insert}
use native.Mathlib.Omega.{arith}
use Rattle.survey_sets.proofs.insert.Goals as goal

pub returns : goal.returns
returns c =
    or_insert _ _ (omega arith)
