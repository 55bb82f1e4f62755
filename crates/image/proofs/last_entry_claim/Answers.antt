-- The claim's parts are laws.
use native.Mathlib.Omega.{arith}
use Rattle.image.proofs.LastEntryLaws.{untold, torn, stale_untold, stale_not_torn}
use Rattle.image.proofs.last_entry_claim.Goals as goal

pub returns : goal.returns
returns c =
    record {
      untold = λ Z c b k r v. untold Z c b k r (omega (arith, v));
      torn = torn;
      stale_untold = λ Z c b k r v last. stale_untold Z c b k r v (omega (arith, last));
      stale_not_torn = stale_not_torn;
    }
