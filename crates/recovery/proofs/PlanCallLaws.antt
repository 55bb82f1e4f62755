-- The planner's answer, by whether it is refused, is the result of a plan call.
use Prim.Native.Nat.{ℕ}
use mathlib.Core.Path.{◌≡◌, refl}
use mathlib.Core.Bool.{Bool, true, false, cond}
use lib.Dec.{eqb}
use Rattle.slices.specs.Parts.{Bytes}
use Rattle.planner.specs.Rules.{Answer, Refused, Waiting, Ready, answer}
use Rattle.planner.specs.Plan.{views_in, plan_refusal}
use Rattle.planner.specs.Answers.{answer_numbers, plan_numbered}
use Rattle.image.specs.Answers as numbered
use Rattle.protocol.specs.StepBytes.{steps_bytes}
use Rattle.protocol.specs.Call.{plan, Numbers, named, budget_of, refusal_of}
use Rattle.protocol.specs.CallResult.{refused, ready_result, accepted_result, call_result, call_bytes}
use Rattle.recovery.specs.Answers.{plan_result}

answered_result : (a : Answer) → plan_result (answer_numbers a) ≡ ready_result a
unfolding answer_numbers ready_result
answered_result Refused = refl
answered_result (Waiting k) = refl
answered_result (Ready l) = refl

either : (t : Bool) (a : Answer) (r : ℕ) → plan_result (cond t (answer_numbers a) (numbered.refused r)) ≡ cond t (ready_result a) (refused r)
either true a r = answered_result a
either false a r = refl

module _ (N : Numbers) (b : Bytes) (bytes rows : ℕ) where
  pub plan_result_lem : plan_result (plan_numbered (plan_refusal N.shape N.leader N.present b bytes rows) (answer (named N) (views_in (named N) b))) ≡ call_result N (plan bytes rows) b
  unfolding plan_numbered call_result accepted_result refusal_of
  plan_result_lem = either (eqb (refusal_of N (plan bytes rows) b) 0) (answer (named N) (views_in (named N) b)) (refusal_of N (plan bytes rows) b)

  pub plan_kept : call_bytes N (plan bytes rows) b ≡ b
  unfolding call_bytes steps_bytes budget_of
  plan_kept = same (eqb (refusal_of N (plan bytes rows) b) 0)
    where
      same : (t : Bool) → cond t b b ≡ b
      same true = refl
      same false = refl
