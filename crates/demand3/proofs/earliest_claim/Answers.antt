use mathlib.Core.Path.{refl}
use native.Mathlib.Omega.{arith}
use Rattle.image.proofs.CallLaws.{size_low}
use Rattle.planner.specs.Rules.{rule}
use Rattle.planner.proofs.MajorityLaws.{majorities_meet, majority_least, waits_if, cuts_if}
use Rattle.demand3.specs.Earliest.{rule_by}
use Rattle.demand3.proofs.EarliestLaws as law
use Rattle.demand3.proofs.earliest_claim.Goals as goal

pub returns : goal.returns
unfolding rule_by rule
returns c =
    record {
      same = λ S W k. refl;
      earlier = law.earlier;
      one_fewer = λ n sized.
          let low = size_low n sized in
          law.earlier _ n _ sized
          (waits_if n _ (omega (arith, low, majorities_meet n, majority_least n)))
          (cuts_if n _ (omega (arith, low, majorities_meet n, majority_least n)));
    }
