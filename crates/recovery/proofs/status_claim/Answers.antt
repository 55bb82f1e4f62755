use mathlib.Core.Path.{refl}
use Rattle.recovery.proofs.status_claim.Goals as goal

pub returns : goal.returns
returns c = record {
  ready_is_0 = λ l old. refl;
  waiting_is_1 = λ k old. refl;
  recovered_is_0 = λ count old. refl;
  stored_is_2 = λ d k kind old. refl;
  spent_is_2 = λ count old. refl;
}
