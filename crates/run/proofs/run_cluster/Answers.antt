use Rattle.std.proofs.Common.{◌≡◌, ℕ, ◌+◌, ◌≤◌, List, refl, sym, ap, ◌∙◌, arith}
use Rattle.planner.specs.declared.Survey.{Survey}
use Rattle.protocol.specs.Call.{Numbers, run, named}
use Rattle.protocol.specs.CallResult.{Result, recovered, run_result, call_result, call_bytes}
use Rattle.recovery.specs.NextStore.{store_of}
use Rattle.recovery.specs.declared.NextStore.{NextStore}
use Rattle.recovery.specs.Answers.{numbers, counted}
use Rattle.recovery.proofs.OutcomeLaws.{refused_run, refused_run_bytes, waiting_run, waiting_run_bytes}
use Rattle.recovery.proofs.OutlookLaws.{sees, in_range, end_fits, waits, readies}
use Rattle.recovery.proofs.Noting.{Noting, noting_start, noting_fits, noting_first, noting_within, noted_ready, noted_replica, noted_rests, noting_more, noting_recovered, noting_ends}
use Rattle.run.proofs.run_cluster.Goals as goal

-- What a call that is not refused finds.
opened : {found refusal : ℕ} {Opened : Type 0} → found ≡ refusal → (found ≡ 0 → Opened) → found ≡ 0 → (refusal ≡ 0) × Opened
opened e o none = (sym e ∙ none, o none)

-- The count of an answer is a number of its own: another count fails on a fact about numbers.
counted_recovered : {x made : ℕ} {r : Result × ℕ} {B : Type 0} → ((recovered made, made) ≡ r) × B → x ≡ made → ((recovered x, x) ≡ r) × B
counted_recovered h e = rw e h

counted_ends : {N : Numbers} {b₀ b : List ℕ} {t₀ t : NextStore} {leader budget made x : ℕ} {s : Survey} {r : Result × ℕ}
    → Noting N b₀ t₀ leader budget made b s t → budget ≤ made → x ≡ made → r ≡ counted (run_result x (store_of t))
    → (r ≡ counted (call_result N (run budget) b₀)) × (b ≡ call_bytes N (run budget) b₀)
counted_ends {t = t} g h e q = noting_ends _ g h (q ∙ ap (λ (n : ℕ). counted (run_result n (store_of t))) e)

pub returns-then-refusal-ne0 : goal.returns-then-refusal-ne0
returns-then-refusal-ne0 c =
    let a = c.args in
    let N = numbers a.shape a.leading a.present in
    let b = a.cluster.now in
    let e = sym c.open_cluster-opening.ensures.refusal in
    let n = c.if-refusal-ne0.true in
    record { answer = refused_run N b refl (e, n) a.budget; bytes = refused_run_bytes N b refl (e, n) a.budget }

pub returns-then-plan : goal.returns-then-plan
returns-then-plan c =
    let a = c.args in
    let N = numbers a.shape a.leading a.present in
    let b = a.cluster.now in
    let o = c.open_cluster-opening.ensures in
    let w = opened o.refusal o.opened (omega arith) in
    let i = waits N b w.0 w.1.survey_is w.1.plan_is {slot = c.open_cluster-opening.result.plan.waiting + 1} (omega arith) (omega arith) in
    record { answer = waiting_run N b refl i a.budget (omega arith); bytes = waiting_run_bytes N b refl i a.budget }

pub first_store-store-requires : goal.first_store-store-requires
first_store-store-requires c =
    let a = c.args in
    let N = numbers a.shape a.leading a.present in
    let b = a.cluster.now in
    let o = c.open_cluster-opening.ensures in
    let w = opened o.refusal o.opened (omega arith) in
    (in_range N b w.0 w.1.survey_is, end_fits N b w.0 w.1.survey_is w.1.plan_is)

pub loop-made-init : goal.loop-made-init
loop-made-init c =
    let a = c.args in
    let N = numbers a.shape a.leading a.present in
    let b = a.cluster.now in
    let o = c.open_cluster-opening.ensures in
    let w = opened o.refusal o.opened (omega arith) in
    let s = w.1.survey_is in
    let i = readies N b w.0 s w.1.plan_is (omega arith) c.first_store-store.result (c.first_store-store.ensures (named N) (sees N b w.0 s) w.1.plan_is) in
    noting_start N b _ a.budget _ _ i (record { accepts = w.0; sees = s; ready = i.1 })

pub returns-then-not-is_outstanding : goal.returns-then-not-is_outstanding
returns-then-not-is_outstanding c =
    let t = sym c.is_outstanding.ensures ∙ c.if-not-is_outstanding.true in
    let both = counted_recovered (noting_recovered _ c.loop-made.invariant t) (omega arith) in
    record { answer = both.0; bytes = both.1 }

pub make_store-requires : goal.make_store-requires
make_store-requires c =
    let g = c.loop-made.invariant in
    record { m_bound = noting_fits _ g; begins_at = noting_first _ g (omega arith) }

pub note_store-survey-requires : goal.note_store-survey-requires
note_store-survey-requires c =
    noting_within _ c.loop-made.invariant

pub next_store-store-requires : goal.next_store-store-requires
next_store-store-requires c =
    let a = c.args in
    let g = c.loop-made.invariant in
    let t = sym c.is_outstanding.ensures ∙ c.if-not-is_outstanding.false in
    let x = c.make_store.ensures in
    let f = c.note_store-survey.ensures in
    (record { leading = a.leading; present = a.present; is = noted_ready _ g t x f }, noted_replica _ g t x f c.made_on.ensures)

pub loop-made-preserved : goal.loop-made-preserved
loop-made-preserved c =
    let a = c.args in
    let g = c.loop-made.invariant in
    let t = sym c.is_outstanding.ensures ∙ c.if-not-is_outstanding.false in
    let x = c.make_store.ensures in
    let f = c.note_store-survey.ensures in
    let next = c.next_store-store.ensures a.leading a.present in
    noting_more _ g t x f (omega arith) (λ v. next v (noted_rests _ g t x f c.made_on.ensures))

pub returns : goal.returns
returns c =
    let both = counted_ends c.loop-made.invariant (omega arith) (omega arith) c.run_answer.ensures in
    record { answer = both.0; bytes = both.1 }
