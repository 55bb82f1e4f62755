-- The two ends of a step and of a run: the answer, with what is handed out, or the refusal, and nothing is.
use Prim.Native.Nat.{ℕ}
use mathlib.Core.Path.{◌≡◌, sym, ap, ◌∙◌}
use Rattle.slices.specs.Parts.{Bytes}
use Rattle.protocol.specs.CallResult.{Result, waiting, count_of}
use Rattle.recovery.specs.Answers.{step_answer_result, run_answer_result, counted}
use Rattle.recovery.specs.declared.StepAnswer.{StepAnswer}
use Rattle.recovery.specs.declared.RunAnswer.{RunAnswer}
use Rattle.recovery.specs.declared.RunAnswer.TheVariants as run-answer
use Rattle.recovery.specs.HandedOut.{result_refusal, result_status, result_replica, result_slot, result_kind, result_stores}

-- each number that is handed out is the answer's
pub step_answered :
    (y : Result) (after new : Bytes) (a x : StepAnswer) → a ≡ x → step_answer_result a ≡ y → after ≡ new →
    (status replica slot kind : ℕ) {r last-status last-replica last-slot last-kind : ℕ} →
    r ≡ result_refusal (step_answer_result x) →
    last-status ≡ result_status (step_answer_result x) status →
    last-replica ≡ result_replica (step_answer_result x) replica →
    last-slot ≡ result_slot (step_answer_result x) slot →
    last-kind ≡ result_kind (step_answer_result x) kind →
    (r ≡ result_refusal y)
    × (after ≡ new)
    × (last-status ≡ result_status y status)
    × (last-replica ≡ result_replica y replica)
    × (last-slot ≡ result_slot y slot)
    × (last-kind ≡ result_kind y kind)
step_answered y after new a x g e left status replica slot kind r₁ s₁ c₁ k₁ w₁ =
    let q : step_answer_result x ≡ y = ap step_answer_result (sym g) ∙ e in (
      r₁ ∙ ap result_refusal q,
      left,
      s₁ ∙ ap (λ (z : Result). result_status z status) q,
      c₁ ∙ ap (λ (z : Result). result_replica z replica) q,
      k₁ ∙ ap (λ (z : Result). result_slot z slot) q,
      w₁ ∙ ap (λ (z : Result). result_kind z kind) q,
    )

-- the count in a run's answer; a refused run has none
abbrev pub stores_in : RunAnswer → ℕ → ℕ
stores_in (run-answer.Recovered count) old = count
stores_in (run-answer.Spent count) old = count
stores_in (run-answer.Waiting k count) old = count
stores_in (run-answer.Refused r) old = old

run_stores : (x : RunAnswer) (y : Result) → run_answer_result x ≡ counted y → (old : ℕ) → stores_in x old ≡ result_stores y old
unfolding count_of
run_stores (run-answer.Recovered count) y e old = ap (λ (z : Result × ℕ). result_stores z.0 old) e
run_stores (run-answer.Spent count) y e old = ap (λ (z : Result × ℕ). result_stores z.0 old) e
run_stores (run-answer.Waiting k count) y e old =
    let q : waiting k ≡ y = ap (λ (z : Result × ℕ). z.0) e in
    ap (λ (z : Result × ℕ). z.1) e ∙ ap count_of (sym q) ∙ ap (λ (z : Result). result_stores z old) q
run_stores (run-answer.Refused r) y e old = ap (λ (z : Result × ℕ). result_stores z.0 old) e

pub run_answered :
    (y : Result) (after new : Bytes) (a x : RunAnswer) → a ≡ x → run_answer_result a ≡ counted y → after ≡ new →
    (status stores slot : ℕ) {r last-status last-stores last-slot : ℕ} →
    r ≡ result_refusal (run_answer_result x).0 →
    last-status ≡ result_status (run_answer_result x).0 status →
    last-stores ≡ stores_in x stores →
    last-slot ≡ result_slot (run_answer_result x).0 slot →
    (r ≡ result_refusal y)
    × (after ≡ new)
    × (last-status ≡ result_status y status)
    × (last-stores ≡ result_stores y stores)
    × (last-slot ≡ result_slot y slot)
run_answered y after new a x g e left status stores slot r₁ s₁ n₁ k₁ =
    let p : run_answer_result x ≡ counted y = ap run_answer_result (sym g) ∙ e in
    let q : (run_answer_result x).0 ≡ y = ap (λ (z : Result × ℕ). z.0) p in (
      r₁ ∙ ap result_refusal q,
      left,
      s₁ ∙ ap (λ (z : Result). result_status z status) q,
      n₁ ∙ run_stores x y p stores,
      k₁ ∙ ap (λ (z : Result). result_slot z slot) q,
    )
