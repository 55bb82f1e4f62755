-- Refusals 12 and 21, and all refusals of planning, step and run that come before what is lent.
use Prim.Native.Nat.{ℕ, pred, ◌-◌, ◌<◌, ◌≤◌}
use mathlib.Core.Path.{◌≡◌, refl, sym, ◌∙◌, ap}
use mathlib.Core.Bool.{Bool, true, false, not, ◌&&◌}
use mathlib.Core.List.{List}
use native.Mathlib.Omega.{arith}
use lib.Dec.{leb}
use lib.ListN.{length, get_or}
use borrow.Author.Tests.{leb-true, not-false, not-true}
use Rattle.slices.specs.Parts.{Bytes}
use Rattle.slices.proofs.SameLaws.{and_left, and_right}
use Rattle.record.specs.declared.Shape.{Shape}
use Rattle.record.specs.Layout.{is_witness}
use Rattle.image.specs.Refusal.{refuse, ◌else◌}
use Rattle.image.specs.View.{View, view_of, seen_as, is_replica}
use Rattle.image.specs.Cluster.{decode}
use Rattle.image.proofs.RefusalLaws.{refuse_zero, else_next, else_first, else_zero_l, else_zero_r}
use Rattle.image.proofs.ViewLaws.{length_le}
use Rattle.image.proofs.CallLaws.{slots_high, size_high}
use Rattle.search.specs.Sets.{has}
use Rattle.planner.specs.Setting.{Setting, setting_of, witness, views_of}
use Rattle.planner.specs.Rules.{may_lead, same_firsts}
use Rattle.planner.specs.Plan.{views_in, shape_refusal, cluster_refusal}
use Rattle.planner.specs.Survey.{Surveyed, SurveyOf, leader_test, same_numbers}
use Rattle.planner.proofs.FirstLaws.{numbers_same}
use Rattle.planner.proofs.ShapeLaws.{shaped_slots, shaped_size}

-- who may lead is readable, and a card
module _ (S : Setting) (W : ℕ → View) (h : may_lead S W ≡ true) where
  pub lead_reads : (W S.leader).readable ≡ true
  unfolding may_lead
  lead_reads = and_left (W S.leader).readable _ h

  pub lead_card : witness S S.leader ≡ false
  unfolding may_lead
  lead_card = not-true _ (and_right (W S.leader).readable _ h)

pub lead_intro : (S : Setting) (W : ℕ → View) → (W S.leader).readable ≡ true → witness S S.leader ≡ false → may_lead S W ≡ true
unfolding may_lead
lead_intro S W r c = rw (r, c) refl

-- ---- refusal 12. Who may lead is known by the readable set and by the witnesses

replica_below : (n leader : ℕ) → is_replica n leader ≡ true → pred leader < n
unfolding is_replica
replica_below n leader q = omega (arith, leb-true 1 leader (and_left (leb 1 leader) (leb leader n) q), leb-true leader n (and_right (leb 1 leader) (leb leader n) q))

module _ (readable witnesses n leader : ℕ) where
  pred_is : leader - 1 ≡ pred leader
  pred_is = omega arith

-- ---- all of them

module _ (Z : Shape) (leader present : ℕ) (b : Bytes) where
  abbrev S : Setting
  S = setting_of Z leader present

  abbrev W : ℕ → View
  W = views_in S b

  cluster_is : cluster_refusal Z leader present b
      ≡ (shape_refusal Z present (length b) else (refuse 12 (not (is_replica Z.n leader && may_lead S W)) else refuse 21 (not (same_firsts S W))))
  unfolding cluster_refusal
  cluster_is = refl

  pub cluster_shape : {r : ℕ} → r ≡ shape_refusal Z present (length b) → (r ≡ 0 → ⊥) → r ≡ cluster_refusal Z leader present b
  cluster_shape e z = e ∙ sym (else_first _ _ (λ q. z (e ∙ q))) ∙ sym cluster_is

  module _ (z : shape_refusal Z present (length b) ≡ 0) (readable : ℕ) (firsts lengths conditions epochs : List ℕ)
      (s : Surveyed Z.n Z.m W readable firsts lengths conditions epochs) where
    leader_same : (is_replica Z.n leader && (has readable (pred leader) && not (has Z.witnesses (pred leader)))) ≡ (is_replica Z.n leader && may_lead S W)
    unfolding may_lead setting_of is_witness
    leader_same = go (is_replica Z.n leader) refl
      where
        go : (t : Bool) → is_replica Z.n leader ≡ t
            → (t && (has readable (pred leader) && not (has Z.witnesses (pred leader)))) ≡ (t && ((W (pred leader)).readable && not (has Z.witnesses (pred leader))))
        go true e = ap (λ (t : Bool). t && not (has Z.witnesses (pred leader))) (s.readable_is (pred leader) (replica_below Z.n leader e))
        go false e = refl

    leader_tests : leader_test readable Z.witnesses Z.n leader ≡ refuse 12 (not (is_replica Z.n leader && may_lead S W))
    unfolding leader_test
    leader_tests = ap (λ (t : Bool). refuse 12 (not t)) leader_same

    -- refused by 12
    pub cluster_leader : {r : ℕ} → r ≡ leader_test readable Z.witnesses Z.n leader → (r ≡ 0 → ⊥) → r ≡ cluster_refusal Z leader present b
    cluster_leader e f = e ∙ leader_tests ∙ sym (else_first _ _ (λ q. f (e ∙ leader_tests ∙ q))) ∙ sym (else_next _ z) ∙ sym cluster_is

    module _ {v : ℕ} (e : v ≡ leader_test readable Z.witnesses Z.n leader) (none : v ≡ 0) where
      on : (is_replica Z.n leader && may_lead S W) ≡ true
      on = not-false _ (refuse_zero 11 _ (sym leader_tests ∙ sym e ∙ none))

      within : pred leader < Z.n
      within = replica_below Z.n leader (and_left (is_replica Z.n leader) (may_lead S W) on)

      leading : may_lead S W ≡ true
      leading = and_right (is_replica Z.n leader) (may_lead S W) on

      reads : (W (pred leader)).readable ≡ true
      unfolding setting_of
      reads = lead_reads S W leading

      first_tests : same_numbers Z.n (leader - 1) readable firsts ≡ same_firsts S W
      unfolding setting_of
      first_tests = rw (pred_is readable Z.witnesses Z.n leader) (numbers_same s S refl within reads)

      -- the leader counts from 0 behind 12
      pub leader_within : (1 ≤ leader) × (leader - 1 < Z.n)
      unfolding is_replica
      leader_within = (leb-true 1 leader (and_left (leb 1 leader) (leb leader Z.n) (and_left (is_replica Z.n leader) (may_lead S W) on)), omega (arith, within))

      -- then 21, or nothing
      pub cluster_firsts : {r : ℕ} → r ≡ refuse 21 (not (same_numbers Z.n (leader - 1) readable firsts)) → r ≡ cluster_refusal Z leader present b
      cluster_firsts q =
          q ∙ ap (λ (t : Bool). refuse 21 (not t)) first_tests ∙ sym (else_next _ (sym leader_tests ∙ sym e ∙ none)) ∙ sym (else_next _ z) ∙ sym cluster_is

      pub cluster_survey : refuse 21 (not (same_numbers Z.n (leader - 1) readable firsts)) ≡ 0
          → SurveyOf S W Z.n (leader - 1) readable firsts lengths conditions epochs
      unfolding setting_of views_in views_of seen_as view_of
      cluster_survey q = record {
        n_is = refl;
        leader_is = sym (pred_is readable Z.witnesses Z.n leader);
        few = size_high Z.n (shaped_size Z present (length b) z);
        leader_below = rw (pred_is readable Z.witnesses Z.n leader) within;
        slots_fit = slots_high Z.m (shaped_slots Z present (length b) z);
        leader_reads = rw (pred_is readable Z.witnesses Z.n leader) reads;
        leader_card = rw (pred_is readable Z.witnesses Z.n leader) (lead_card S W leading);
        same_firsts_lem = sym first_tests ∙ not-false _ (refuse_zero 20 _ q);
        logs_fit = λ c. length_le Z.m (decode Z b c);
        surveyed = s;
      }

-- what the plan of a survey asks
pub survey_asks : {S : Setting} {W : ℕ → View} {n leader readable : ℕ} {firsts lengths conditions epochs : List ℕ} → SurveyOf S W n leader readable firsts lengths conditions epochs
    → (n ≤ 7) × (leader < n) × (get_or lengths leader 0 ≤ 64)
survey_asks {S} {W} {n} {leader} o =
    (o.few, o.leader_below, omega (arith, o.surveyed.length_is leader o.leader_below o.leader_reads, o.logs_fit leader, o.slots_fit))

-- ---- a cluster that is not refused

module _ (Z : Shape) (leader present : ℕ) (b : Bytes) (e : cluster_refusal Z leader present b ≡ 0) where
  pub cluster_shaped : shape_refusal Z present (length b) ≡ 0
  cluster_shaped = else_zero_l _ _ (sym (cluster_is Z leader present b) ∙ e)

  behind_shape : (refuse 12 (not (is_replica Z.n leader && may_lead (setting_of Z leader present) (views_in (setting_of Z leader present) b)))
      else refuse 21 (not (same_firsts (setting_of Z leader present) (views_in (setting_of Z leader present) b)))) ≡ 0
  behind_shape = else_zero_r _ _ (sym (cluster_is Z leader present b) ∙ e)

  leads : (is_replica Z.n leader && may_lead (setting_of Z leader present) (views_in (setting_of Z leader present) b)) ≡ true
  leads = not-false _ (refuse_zero 11 _ (else_zero_l _ _ behind_shape))

  numbered : is_replica Z.n leader ≡ true
  numbered = and_left (is_replica Z.n leader) (may_lead (setting_of Z leader present) (views_in (setting_of Z leader present) b)) leads

  -- the leader may lead
  pub lead_accepted : may_lead (setting_of Z leader present) (views_in (setting_of Z leader present) b) ≡ true
  lead_accepted = and_right (is_replica Z.n leader) (may_lead (setting_of Z leader present) (views_in (setting_of Z leader present) b)) leads

  -- it is a replica of the cluster, and is read
  pub leader_accepted : (pred leader < Z.n) × ((views_in (setting_of Z leader present) b (pred leader)).readable ≡ true)
  unfolding setting_of
  leader_accepted = (replica_below Z.n leader numbered, lead_reads (setting_of Z leader present) (views_in (setting_of Z leader present) b) lead_accepted)

  -- its number counts from 1
  pub leader_first : 1 ≤ leader
  unfolding is_replica
  leader_first = leb-true 1 leader (and_left (leb 1 leader) (leb leader Z.n) numbered)

  -- and every readable replica has its first index
  pub firsts_accepted : same_firsts (setting_of Z leader present) (views_in (setting_of Z leader present) b) ≡ true
  firsts_accepted = not-false _ (refuse_zero 20 _ (else_zero_r _ _ behind_shape))

-- the refusal looks at the bytes through these three alone
pub cluster_cong : (Z : Shape) (leader present : ℕ) (a b : Bytes) → length a ≡ length b
    → (views_in (setting_of Z leader present) a (pred leader)).readable ≡ (views_in (setting_of Z leader present) b (pred leader)).readable
    → same_firsts (setting_of Z leader present) (views_in (setting_of Z leader present) a) ≡ same_firsts (setting_of Z leader present) (views_in (setting_of Z leader present) b)
    → cluster_refusal Z leader present a ≡ cluster_refusal Z leader present b
unfolding setting_of may_lead
cluster_cong Z leader present a b l r f =
    cluster_is Z leader present a
    ∙ (λ i. shape_refusal Z present (l i) else (refuse 12 (not (is_replica Z.n leader && (r i && not (witness (setting_of Z leader present) (pred leader))))) else refuse 21 (not (f i))))
    ∙ sym (cluster_is Z leader present b)
