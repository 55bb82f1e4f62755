use Rattle.planner.proofs.OutcomeLaws.{refused_outcome}
use native.Mathlib.Omega.{arith}
use Rattle.plan_bytes.proofs.refused.Goals as goal

pub returns : goal.returns
returns c =
    refused_outcome _ _ c.no_rows-rows.ensures (omega arith) c.requires
