-- The end of the call that plans: what the planner leaves, and what is handed out of its answer.
use Prim.Native.Nat.{ℕ}
use mathlib.Core.Path.{◌≡◌, refl, sym, ap, ◌∙◌}
use mathlib.Core.Bool.{Bool, true, false, cond}
use mathlib.Core.List.{List}
use lib.Dec.{eqb}
use borrow.Author.Tests.{eqb-true}
use Rattle.slices.specs.Parts.{Bytes}
use Rattle.record.specs.declared.Shape.{Shape}
use Rattle.image.proofs.RefusalLaws.{else_zero_l}
use Rattle.image.specs.Refusal.{unless_refused}
use Rattle.image.specs.Answers.{Numbered}
use Rattle.image.specs.Answers as numbered
use Rattle.planner.specs.Setting.{setting_of}
use Rattle.planner.specs.Rules.{Answer, Refused, Waiting, Ready, answer}
use Rattle.planner.specs.Plan.{views_in, lent_refusal, plan_refusal}
use Rattle.planner.specs.Answers.{plan_numbers, answer_numbers, plan_numbered}
use Rattle.planner.specs.declared.ReplicaRow.{ReplicaRow}
use Rattle.planner.specs.declared.PlanAnswer.{PlanAnswer}
use Rattle.planner.proofs.CallLaws.{lead_accepted, firsts_accepted}
use Rattle.protocol.specs.Call.{plan}
use Rattle.protocol.specs.CallResult.{Result, call_result}
use Rattle.protocol.proofs.CallLaws.{not_refused}
use Rattle.recovery.specs.Answers.{numbers, plan_result}
use Rattle.recovery.specs.HandedOut.{plan_called, result_refusal, result_status, result_number}
use Rattle.recovery.proofs.PlanCallLaws.{plan_result_lem}

-- a cluster that is not refused has an answer
has_answer :
    (Z : Shape) (leader present : ℕ) (b : Bytes) (bytes rows : ℕ) →
    plan_refusal Z leader present b bytes rows ≡ 0 →
    answer (setting_of Z leader present) (views_in (setting_of Z leader present) b) ≡ Refused →
    ⊥
unfolding plan_refusal lent_refusal setting_of
has_answer Z leader present b bytes rows e =
    let z = else_zero_l _ _ e in not_refused (setting_of Z leader present) b (lead_accepted Z leader present b z) (firsts_accepted Z leader present b z)

module _ (Z : Shape) (leader present : ℕ) (b : Bytes) (bytes rows : ℕ) where
  abbrev R : ℕ
  R = plan_refusal Z leader present b bytes rows

  abbrev planned : Answer
  planned = answer (setting_of Z leader present) (views_in (setting_of Z leader present) b)

  abbrev result : Result
  result = call_result (numbers Z leader present) (plan bytes rows) b

  answered_refusal : result_refusal (plan_result (plan_numbered R planned)) ≡ R
  unfolding plan_numbered answer_numbers
  answered_refusal = go (eqb R 0) planned refl (has_answer Z leader present b bytes rows)
    where
      go : (t : Bool) (x : Answer) → eqb R 0 ≡ t → (R ≡ 0 → x ≡ Refused → ⊥) → result_refusal (plan_result (cond t (answer_numbers x) (numbered.refused R))) ≡ R
      go true Refused q known = absurd (known (eqb-true _ _ q) refl)
      go true (Waiting k) q known = sym (eqb-true _ _ q)
      go true (Ready l) q known = sym (eqb-true _ _ q)
      go false x q known = refl

  -- by what the planner leaves and what is handed out of its answer
  pub plan_answered :
      (new old : Bytes) (filled lent : List ReplicaRow) (status number : ℕ) (a : PlanAnswer) {r : ℕ} {after : Bytes} {table : List ReplicaRow} {last-status last-number : ℕ} →
      (plan_numbers a ≡ plan_numbered R planned) × (after ≡ unless_refused R new old) × (table ≡ unless_refused R filled lent) →
      (r ≡ result_refusal (plan_result (plan_numbers a))) × (last-status ≡ result_status (plan_result (plan_numbers a)) status) × (last-number ≡ result_number (plan_result (plan_numbers a)) number) →
      (r ≡ result_refusal result)
      × (after ≡ unless_refused r new old)
      × (table ≡ unless_refused r filled lent)
      × (last-status ≡ result_status result status)
      × (last-number ≡ result_number result number)
  plan_answered new old filled lent status number a {r = r} left out =
      let q : plan_result (plan_numbers a) ≡ result = ap plan_result left.0 ∙ plan_result_lem (numbers Z leader present) b bytes rows in
      let same : r ≡ R = out.0 ∙ ap (λ (z : Numbered (ℕ × ℕ)). result_refusal (plan_result z)) left.0 ∙ answered_refusal in (
        out.0 ∙ ap result_refusal q,
        left.1 ∙ ap (λ (z : ℕ). unless_refused z new old) (sym same),
        left.2 ∙ ap (λ (z : ℕ). unless_refused z filled lent) (sym same),
        out.1 ∙ ap (λ (z : Result). result_status z status) q,
        out.2 ∙ ap (λ (z : Result). result_number z number) q,
      )

-- of a table of so many rows
pub lent_rows : (Z : Shape) (leader present : ℕ) (b : Bytes) (bytes rows lent : ℕ) {r : ℕ} → r ≡ result_refusal (plan_called Z leader present b bytes lent) → lent ≡ rows
    → r ≡ result_refusal (plan_called Z leader present b bytes rows)
lent_rows Z leader present b bytes rows lent e q = e ∙ ap (λ (x : ℕ). result_refusal (plan_called Z leader present b bytes x)) q

-- of a call with this refusal
pub unless_refused_lem : (refusal : ℕ) (filled lent : List ReplicaRow) (r : ℕ) {table : List ReplicaRow} → table ≡ unless_refused r filled lent → r ≡ refusal
    → table ≡ unless_refused refusal filled lent
unless_refused_lem refusal filled lent r e q = e ∙ ap (λ (x : ℕ). unless_refused x filled lent) q
