-- What the planner's call answers and leaves.
use Prim.Native.Nat.{ℕ, suc, ◌+◌, ◌-◌, ◌<◌, ◌≤◌}
use mathlib.Core.Path.{◌≡◌, refl, sym, ap, ◌∙◌, subst}
use mathlib.Core.Bool.{Bool, true, false, cond}
use mathlib.Core.List.{List}
use native.Mathlib.Omega.{arith}
use native.Mathlib.Numerals.{add-one}
use lib.Dec.{eqb, ltb}
use lib.ListN.{length, get_or, take}
use lib.Seq.{length-take-le}
use borrow.Author.Tests.{eqb-true, eq-eqb, ne_eqb, lt-ltb, le-ltb}
use Rattle.slices.specs.Parts.{Bytes}
use Rattle.search.specs.Search.{listed}
use Rattle.record.specs.declared.Shape.{Shape}
use Rattle.image.specs.Refusal.{unless_refused}
use Rattle.image.specs.View.{View}
use Rattle.image.specs.Answers.{value}
use Rattle.image.proofs.CallLaws.{size_high}
use Rattle.search.specs.Sets.{has}
use Rattle.planner.specs.Setting.{Setting, setting_of}
use Rattle.planner.specs.Rules.{Waiting, Ready, answer, end, first_waiting, may_lead, same_firsts}
use Rattle.planner.specs.Plan.{views_in, plan_bytes, cluster_refusal, lent_refusal, plan_refusal}
use Rattle.planner.specs.declared.PlanAnswer.{PlanAnswer}
use Rattle.planner.specs.declared.PlanAnswer.TheVariants as plan
use Rattle.planner.specs.declared.ReplicaRow.{ReplicaRow}
use Rattle.planner.specs.Survey.{SurveyOf, Planned}
use Rattle.planner.specs.Answers.{plan_numbers, answer_numbers, plan_numbered, rows_of}
use Rattle.planner.specs.Tabulated.{answer_at, front_rows, number_row, Outcome}
use Rattle.planner.proofs.RowLaws.{lengths_fit, rows_are}
use Rattle.planner.proofs.ShapeLaws.{shaped_size}
use Rattle.planner.proofs.CallLaws.{cluster_shaped, lead_intro}
use Rattle.planner.proofs.LentLaws.{lent_rows, lent_zero}
use Rattle.planner.proofs.FrontLaws.{front_none, front_all}

pub answer_waiting : (e w : ℕ) → w < e → value (1, w + 1) ≡ answer_at e w
unfolding answer_at
answer_waiting e w h = rw (lt-ltb w e h, add-one) refl

pub answer_ready : (e w : ℕ) → e ≤ w → value (0, e) ≡ answer_at e w
unfolding answer_at
answer_ready e w h = rw (le-ltb w e h) refl

answer_found : (S : Setting) (W : ℕ → View) {final waiting : ℕ} → may_lead S W ≡ true → same_firsts S W ≡ true → final ≡ end S W → waiting ≡ first_waiting S W
    → answer_at final waiting ≡ answer_numbers (answer S W)
unfolding answer_at answer_numbers answer
answer_found S W ok one f w = rw (ok, one, f, w) (go (ltb (first_waiting S W) (end S W)))
  where
    go : (t : Bool) → cond t (value (1, suc (first_waiting S W))) (value (0, end S W)) ≡ answer_numbers (cond t (Waiting (first_waiting S W)) (Ready (end S W)))
    go true = refl
    go false = refl

pub refused_outcome : (refusal : ℕ) (rows : List ReplicaRow) {count : ℕ} → length rows ≡ 7 → count ≡ 0 → (refusal ≡ 0 → ⊥) → (S : Setting) (W : ℕ → View) → Outcome refusal S W (plan.Refused refusal) count rows
unfolding plan_numbered
refused_outcome refusal rows l none e S W = record {
  sized = l;
  answer_is = rw (ne_eqb refusal 0 e) refl;
  count_is = none ∙ rw (ne_eqb refusal 0 e) refl;
  rows_are = λ z. absurd (e z);
}

pub left_alone : (refusal : ℕ) (new old : List ℕ) → (refusal ≡ 0 → ⊥) → old ≡ unless_refused refusal new old
unfolding unless_refused
left_alone refusal new old e = rw (ne_eqb refusal 0 e) refl

module _ (S : Setting) (W : ℕ → View) {n leader readable : ℕ} {firsts lengths conditions epochs : List ℕ} (o : SurveyOf S W n leader readable firsts lengths conditions epochs) where
  pub rows_ask : (n ≤ 7) × ((c : ℕ) → c < n → has readable c ≡ true → get_or lengths c 0 ≤ 64)
  rows_ask = (o.few, lengths_fit n S.shape.m readable W firsts lengths conditions epochs o.surveyed (λ c b r. o.logs_fit c) o.slots_fit)

  pub planned_outcome : {refusal final waiting : ℕ} {bytes : List ℕ} {a : PlanAnswer} {rows : List ReplicaRow} → refusal ≡ 0 → Planned S W bytes final waiting → plan_numbers a ≡ answer_at final waiting
      → (length rows ≡ 7) × (take n rows ≡ listed n (number_row readable lengths epochs)) → Outcome refusal S W a n rows
  unfolding plan_numbered rows_of
  planned_outcome z p e t = record {
    sized = t.0;
    answer_is = e ∙ answer_found S W (lead_intro S W (rw o.leader_is o.leader_reads) (rw o.leader_is o.leader_card)) o.same_firsts_lem p.end_is p.waiting_is ∙ rw (eq-eqb _ _ z) refl;
    count_is = rw (eq-eqb _ _ z) (sym o.n_is);
    rows_are = λ _. rw o.n_is (t.1 ∙ rows_are n S.shape.m readable W firsts lengths conditions epochs o.surveyed (λ c b r. o.logs_fit c));
  }

-- the plan's bytes are copied from those of 64 slots
module _ (Z : Shape) (leader present : ℕ) {W : ℕ → View} {l readable : ℕ} {firsts lengths conditions epochs : List ℕ} (o : SurveyOf (setting_of Z leader present) W Z.n l readable firsts lengths conditions epochs)
    {final waiting : ℕ} {bytes : List ℕ} (p : Planned (setting_of Z leader present) W bytes final waiting) where
  pub slots_there : Z.m ≤ length bytes
  unfolding setting_of
  slots_there = omega (arith, o.slots_fit, p.sized)

  pub copy_asks : {size : ℕ} → size ≡ Z.m → size ≡ length (take (Z.m - 0) bytes)
  copy_asks e =
      let z : Z.m - 0 ≡ Z.m = omega arith in
      rw z (e ∙ sym (length-take-le Z.m bytes slots_there))

  pub bytes_filled : {refusal : ℕ} {new : List ℕ} (old : List ℕ) → refusal ≡ 0 → new ≡ take (Z.m - 0) bytes → new ≡ unless_refused refusal (plan_bytes (setting_of Z leader present) W) old
  unfolding unless_refused setting_of
  bytes_filled {refusal} old z e =
      let k : Z.m - 0 ≡ Z.m = omega arith in
      rw (eq-eqb refusal 0 z) (e ∙ rw k p.bytes_are)

pub outcome_at : {r q : ℕ} {S : Setting} {W : ℕ → View} {a : PlanAnswer} {count : ℕ} {rows : List ReplicaRow} → r ≡ q → Outcome r S W a count rows → Outcome q S W a count rows
outcome_at {r} {q} {S} {W} {a} {count} {rows} e o = subst (λ (x : ℕ). Outcome x S W a count rows) e o

-- the rows of the table afterwards
pub rows_filled : {refusal : ℕ} {S : Setting} {W : ℕ → View} {a : PlanAnswer} {count : ℕ} {rows : List ReplicaRow} (old : List ReplicaRow) → Outcome refusal S W a count rows
    → (refusal ≡ 0 → length old ≡ S.shape.n) → front_rows count rows old ≡ unless_refused refusal (rows_of S W) old
unfolding unless_refused front_rows
rows_filled {refusal} {S} {W} {a} {count} {rows} old o l = go (eqb refusal 0) refl
  where
    go : (t : Bool) → eqb refusal 0 ≡ t → front_rows count rows old ≡ cond t (rows_of S W) old
    go true e =
        let z = eqb-true refusal 0 e in
        rw (o.count_is, e) (front_all S.shape.n rows old (l z) ∙ o.rows_are z)
    go false e = rw (o.count_is, e) (sym (front_none rows old))

pub count_fits : {refusal : ℕ} {S : Setting} {W : ℕ → View} {a : PlanAnswer} {count : ℕ} {rows : List ReplicaRow} (old : List ReplicaRow) → Outcome refusal S W a count rows
    → (refusal ≡ 0 → (length old ≡ S.shape.n) × (S.shape.n ≤ 7)) → (count ≤ 7) × (count ≤ length old)
count_fits {refusal} {S} {W} {a} {count} {rows} old o l = go (eqb refusal 0) refl
  where
    go : (t : Bool) → eqb refusal 0 ≡ t → (count ≤ 7) × (count ≤ length old)
    go true e =
        let z = l (eqb-true refusal 0 e) in
        let n : count ≡ S.shape.n = o.count_is ∙ rw e refl in
        (omega (arith, z.1), omega (arith, z.0))
    go false e = let n : count ≡ 0 = o.count_is ∙ rw e refl in (omega arith, omega arith)

-- a call that is not refused has a table of n rows
pub table_fits : (Z : Shape) (leader present : ℕ) (b : Bytes) (bytes rows : ℕ) → plan_refusal Z leader present b bytes rows ≡ 0 → (rows ≡ Z.n) × (Z.n ≤ 7)
unfolding plan_refusal lent_refusal
table_fits Z leader present b bytes rows e = (
  lent_rows (cluster_refusal Z leader present b) Z bytes rows (sym e) refl,
  size_high Z.n (shaped_size Z present (length b) (cluster_shaped Z leader present b (lent_zero (cluster_refusal Z leader present b) Z bytes rows (sym e) refl))),
)

-- ---- the call as a whole

module _ (Z : Shape) (leader present : ℕ) (b : Bytes) (bytes : ℕ) (old : List ReplicaRow) {a : PlanAnswer} {count : ℕ} {rows : List ReplicaRow}
    (o : Outcome (plan_refusal Z leader present b bytes (length old)) (setting_of Z leader present) (views_in (setting_of Z leader present) b) a count rows) where
  pub fill_asks : {k : ℕ} → k ≡ count → (length rows ≡ 7) × (k ≤ 7) × (k ≤ length old)
  unfolding setting_of
  fill_asks e = let f = count_fits old o (table_fits Z leader present b bytes (length old)) in (o.sized, omega (arith, f.0), omega (arith, f.1))

  pub call_answers : {r : PlanAnswer} → r ≡ a → plan_numbers r ≡ plan_numbered (plan_refusal Z leader present b bytes (length old)) (answer (setting_of Z leader present) (views_in (setting_of Z leader present) b))
  call_answers e = ap plan_numbers e ∙ o.answer_is

  pub call_fills : {k : ℕ} {new : List ReplicaRow} → k ≡ count → new ≡ front_rows k rows old
      → new ≡ unless_refused (plan_refusal Z leader present b bytes (length old)) (rows_of (setting_of Z leader present) (views_in (setting_of Z leader present) b)) old
  unfolding setting_of
  call_fills e q = q ∙ rw e (rows_filled old o (λ z. (table_fits Z leader present b bytes (length old) z).0))
