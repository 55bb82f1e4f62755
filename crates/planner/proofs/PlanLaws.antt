-- The plan of a survey's numbers is the plan of the views that they are of.
use Prim.Native.Nat.{ℕ, suc, ◌+◌, ◌<◌, ◌≤◌}
use mathlib.Core.Path.{◌≡◌, refl, sym, ◌∙◌, ap}
use mathlib.Core.Bool.{true, true≢false}
use mathlib.Core.List.{List}
use native.Mathlib.Omega.{arith}
use native.Mathlib.Decide.{dec_lt, ℕ_discrete}
use lib.Dec.{eqb}
use lib.ListN.{length, get_or, take}
use lib.Seq.{get_or-take, length-take-le}
use borrow.Author.Tests.{eq-eqb, ne_eqb, lt-ltb, le-ltb}
use Rattle.search.specs.Search.{lowest, listed}
use Rattle.search.proofs.SearchLaws.{lowest_passes, lowest_cong}
use Rattle.search.proofs.ListedLaws.{length_listed, get_d_listed, listed_ext, listed_cong}
use Rattle.image.specs.View.{View}
use Rattle.image.specs.declared.condition.Condition.{Condition}
use Rattle.image.specs.declared.condition.Condition.TheVariants.{Unused, Whole, RecordLost, Faulty, Lost, RecordOnly}
use Rattle.image.specs.View.{condition_number}
use Rattle.planner.specs.Setting.{Setting}
use Rattle.planner.specs.Rules.{is_truncate, is_wait, Rule, Keep, Fetch, Truncate, Wait, rule, donor, end, first_waiting}
use Rattle.planner.specs.Plan.{kept_byte, rule_byte, plan_byte, plan_bytes}
use Rattle.planner.specs.Survey.{condition_from, survey_setting, survey_views, slot_byte, Walked, marked_byte, Surveyed, SurveyOf, Planned}
use Rattle.planner.proofs.RuleLaws.{end_le}
use Rattle.planner.proofs.CongLaws.{SameAt, end_cong, waiting_cong, byte_cong}

take_listed : (b m : ℕ) (f : ℕ → ℕ) → m ≤ b → take m (listed b f) ≡ listed m f
take_listed b m f h =
    listed_ext m f 0 (take m (listed b f)) (length-take-le m (listed b f) (omega (arith, length_listed b f)))
    (λ k l. get_or-take m (listed b f) k 0 l ∙ get_d_listed b f k 0 (omega arith))

-- ---- the plan bytes of views

cut_byte : (r : Rule) (a : Condition) (d : ℕ) → is_truncate r ≡ true → rule_byte r a d ≡ 4
unfolding is_truncate rule_byte
cut_byte Keep a d e = absurd (true≢false (sym e))
cut_byte Fetch a d e = absurd (true≢false (sym e))
cut_byte Truncate a d e = refl
cut_byte Wait a d e = absurd (true≢false (sym e))

wait_byte : (r : Rule) (a : Condition) (d : ℕ) → eqb (rule_byte r a d) 3 ≡ is_wait r
unfolding is_wait rule_byte kept_byte
wait_byte Keep Unused d = refl
wait_byte Keep Whole d = refl
wait_byte Keep RecordLost d = refl
wait_byte Keep Faulty d = refl
wait_byte Keep Lost d = refl
wait_byte Keep RecordOnly d = refl
wait_byte Fetch a d = ne_eqb (10 + suc d) 3 (λ e. omega arith)
wait_byte Truncate a d = refl
wait_byte Wait a d = refl

module _ (S : Setting) (W : ℕ → View) (kept : List ℕ) (final : ℕ) (f : final ≡ end S W) (w : Walked S W kept final) where
  final_le : final ≤ (W S.leader).length
  final_le = omega (arith, f, end_le S W)

  end_cuts : final < (W S.leader).length → is_truncate (rule S W final) ≡ true
  unfolding end
  end_cuts h = rw f (lowest_passes (λ k. is_truncate (rule S W k)) (W S.leader).length (omega (arith, f)))

  marked_is : (k : ℕ) → marked_byte kept final (W S.leader).length k ≡ plan_byte S W k
  unfolding marked_byte plan_byte slot_byte
  marked_is k = go (dec_lt k final) (dec_lt k (W S.leader).length) (ℕ_discrete k final)
    where
      go : Dec (k < final) → Dec (k < (W S.leader).length) → Dec (k ≡ final) → marked_byte kept final (W S.leader).length k ≡ plan_byte S W k
      go (yes a) (yes b) q = rw (lt-ltb k final a, lt-ltb k (W S.leader).length b, sym f, le-ltb final k (omega arith)) (w.passed k a)
      go (yes a) (no b) q = absurd (omega (arith, final_le))
      go (no a) (yes b) (yes q) =
          rw (le-ltb k final (omega arith), lt-ltb k (W S.leader).length b, eq-eqb k final q, sym f, le-ltb final k (omega arith), q)
          (sym (cut_byte (rule S W final) ((W S.leader).condition final) (donor S W final) (end_cuts (omega arith))))
      go (no a) (yes b) (no q) =
          rw (le-ltb k final (omega arith), lt-ltb k (W S.leader).length b, ne_eqb k final q, sym f, lt-ltb final k (omega arith)) refl
      go (no a) (no b) q = rw (le-ltb k final (omega arith), le-ltb k (W S.leader).length (omega arith)) (w.ahead k (omega arith))

  waiting_is : (bytes : List ℕ) → bytes ≡ listed 64 (plan_byte S W) → (W S.leader).length ≤ 64 → lowest (λ k. eqb (get_or bytes k 0) 3) final ≡ first_waiting S W
  unfolding first_waiting plan_byte
  waiting_is bytes e h =
      lowest_cong (λ k. eqb (get_or bytes k 0) 3) (λ k. is_wait (rule S W k)) final (λ k l. at k l) ∙ ap (lowest (λ k. is_wait (rule S W k))) f
    where
      at : (k : ℕ) → k < final → eqb (get_or bytes k 0) 3 ≡ is_wait (rule S W k)
      at k l =
          rw (e, get_d_listed 64 (plan_byte S W) k 0 (omega (arith, final_le)), lt-ltb k (W S.leader).length (omega (arith, final_le)), sym f, le-ltb final k (omega arith))
          (wait_byte (rule S W k) ((W S.leader).condition k) (donor S W k))

-- ---- from the numbers to the views

number_from : (a : Condition) → condition_from (condition_number a) ≡ a
unfolding condition_from
number_from Unused = refl
number_from Whole = refl
number_from RecordLost = refl
number_from Faulty = refl
number_from Lost = refl
number_from RecordOnly = refl

pub survey_end_le : (n leader l readable : ℕ) (conditions epochs : List ℕ) {final : ℕ} → final ≡ end (survey_setting n leader) (survey_views l readable conditions epochs) → final ≤ l
unfolding survey_setting survey_views
survey_end_le n leader l readable conditions epochs f = omega (arith, f, end_le (survey_setting n leader) (survey_views l readable conditions epochs))

same_at : (n m readable l : ℕ) (firsts lengths conditions epochs : List ℕ) (W : ℕ → View) → Surveyed n m W readable firsts lengths conditions epochs
    → (k : ℕ) → k < m → SameAt n (survey_views l readable conditions epochs) W k
unfolding survey_views
same_at n m readable l firsts lengths conditions epochs W s k h = record {
  readables = s.readable_is;
  conditions = λ c b r. rw (s.condition_is c k b h r) (number_from ((W c).condition k));
  epochs = λ c b r. s.epoch_is c k b h r;
}

module _ (n leader readable : ℕ) (firsts lengths conditions epochs : List ℕ) (S : Setting) (W : ℕ → View) (o : SurveyOf S W n leader readable firsts lengths conditions epochs) (lead : leader < n)
    (l : ℕ) (le : l ≡ get_or lengths leader 0) where
  log_is : l ≡ (W S.leader).length
  log_is = le ∙ rw o.leader_is (o.surveyed.length_is leader lead o.leader_reads)

pub plan_of : (n leader l readable : ℕ) (lengths conditions epochs kept : List ℕ) {firsts bytes : List ℕ} {final waiting : ℕ} → l ≡ get_or lengths leader 0 → l ≤ 64 → leader < n
    → final ≡ end (survey_setting n leader) (survey_views l readable conditions epochs) → Walked (survey_setting n leader) (survey_views l readable conditions epochs) kept final
    → bytes ≡ listed 64 (marked_byte kept final l) → waiting ≡ lowest (λ k. eqb (get_or bytes k 0) 3) final
    → (S : Setting) (W : ℕ → View) → SurveyOf S W n leader readable firsts lengths conditions epochs → Planned S W bytes final waiting
unfolding survey_setting survey_views plan_bytes
plan_of n leader l readable lengths conditions epochs kept {firsts} {bytes} {final} {waiting} le fits lead f w b q S W o = record {
  sized = ap length are ∙ length_listed 64 (plan_byte T U);
  bytes_are = rw are (take_listed 64 S.shape.m (plan_byte T U) o.slots_fit ∙ listed_cong S.shape.m (plan_byte T U) (plan_byte S W) (λ k h. byte_cong T S U W en el lead' ok len same k));
  end_is = f ∙ end_cong T S U W en el lead' ok len same;
  waiting_is = q ∙ waiting_is T U kept final f w bytes are fits ∙ waiting_cong T S U W en el lead' ok len same;
}
  where
    T : Setting
    T = survey_setting n leader

    U : ℕ → View
    U = survey_views l readable conditions epochs

    en : n ≡ S.shape.n
    en = sym o.n_is

    el : leader ≡ S.leader
    el = sym o.leader_is

    lead' : S.leader < S.shape.n
    lead' = omega (arith, en, el)

    ok : (W S.leader).readable ≡ true
    ok = rw o.leader_is o.leader_reads

    len : l ≡ (W S.leader).length
    len = log_is n leader readable firsts lengths conditions epochs S W o lead l le

    log_fits : (W S.leader).length ≤ S.shape.m
    log_fits = o.logs_fit S.leader

    same : (k : ℕ) → k < (W S.leader).length → SameAt S.shape.n U W k
    same k h = rw o.n_is (same_at n S.shape.m readable l firsts lengths conditions epochs W o.surveyed k (omega (arith, log_fits)))

    are : bytes ≡ listed 64 (plan_byte T U)
    are = b ∙ listed_cong 64 (marked_byte kept final l) (plan_byte T U) (λ k h. marked_is T U kept final f w k)
