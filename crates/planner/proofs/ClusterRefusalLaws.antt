-- What refuses a call about a cluster, number by number.
use Prim.Native.Nat.{ℕ, zero, suc, pred, ◌/◌, ◌%◌, ◌^◌, ◌≤◌, ◌<◌}
use mathlib.Core.Path.{◌≡◌, refl, sym, ◌∙◌, ap, subst}
use mathlib.Core.Bool.{Bool, true, false, not, ◌&&◌, true≢false}
use native.Mathlib.Omega.{arith}
use native.Mathlib.Nat.{suc-pred-eq_of_pos}
use lib.Dec.{eqb, leb, ltb}
use lib.ListN.{length}
use borrow.Author.Tests.{eqb-true, eq-eqb, leb-true, ltb-true, lt-ltb}
use Rattle.search.specs.Search.{lowest}
use Rattle.slices.specs.Parts.{Bytes}
use Rattle.slices.proofs.SameLaws.{and_left, and_right, and_true}
use Rattle.record.specs.declared.Shape.{Shape}
use Rattle.record.specs.Layout.{is_witness}
use Rattle.image.specs.Refusal.{refuse, ◌else◌}
use Rattle.image.specs.View.{is_size, is_replica, is_slots, is_edition, read_refusal}
use Rattle.image.specs.Cluster.{image_at, image_part, first_at}
use Rattle.image.proofs.CallLaws.{is_slots_lem, slots_low, slots_high, is_size_lem, size_low, size_high, is_replica_lem, is_edition_lem, edition_from, edition_to}
use Rattle.search.specs.Sets.{has}
use Rattle.planner.specs.Setting.{setting_of}
use Rattle.planner.specs.Rules.{may_lead, same_firsts}
use Rattle.planner.specs.Plan.{views_in, shape_refusal, cluster_refusal, lent_refusal, plan_refusal}
use Rattle.planner.specs.ClusterRefusalClaim.{tried, rank, FirstApplying, InSet, ClusterRefused, PlanRefused, slots, replicas, edition, size, stray, stray_witness, no_leader, away, unreadable, leader_witness, other_first, cluster, plan, table}
use Rattle.planner.proofs.AskingLaws.{own_refusal}
use Rattle.planner.proofs.CallLaws.{lead_reads, lead_card}
use Rattle.planner.proofs.FirstLaws.{same_off, same_other, view_first, first_one}
use Rattle.planner.proofs.BitLaws.{high_one, no_high_one}

-- ---- tests tried in turn

-- the refusal of a cluster by what its seven tests say
abbrev chain : Bool → Bool → Bool → Bool → Bool → Bool → Bool → ℕ
chain s z l w v i f = (refuse 1 (not s) else refuse 2 (not z) else refuse 3 (not l) else refuse 11 (not w) else refuse 22 (not v)) else refuse 12 (not i) else refuse 21 (not f)

-- a refusal, by q or a number before it
abbrev UpTo : ℕ → ℕ → Type 0
UpTo q r = (1 ≤ r) × (rank r ≤ rank q)

by_slots : (s z l w v i f : Bool) → s ≡ false → UpTo 1 (chain s z l w v i f)
unfolding refuse ◌else◌
by_slots true z l w v i f e = absurd (true≢false e)
by_slots false z l w v i f e = (omega arith, omega arith)

by_replicas : (s z l w v i f : Bool) → z ≡ false → UpTo 2 (chain s z l w v i f)
unfolding refuse ◌else◌ rank tried lowest
by_replicas false z l w v i f e = (omega arith, omega arith)
by_replicas true true l w v i f e = absurd (true≢false e)
by_replicas true false l w v i f e = (omega arith, omega arith)

by_size : (s z l w v i f : Bool) → l ≡ false → UpTo 3 (chain s z l w v i f)
unfolding refuse ◌else◌ rank tried lowest
by_size false z l w v i f e = (omega arith, omega arith)
by_size true false l w v i f e = (omega arith, omega arith)
by_size true true true w v i f e = absurd (true≢false e)
by_size true true false w v i f e = (omega arith, omega arith)

by_set : (s z l w v i f : Bool) → w ≡ false → UpTo 11 (chain s z l w v i f)
unfolding refuse ◌else◌ rank tried lowest
by_set false z l w v i f e = (omega arith, omega arith)
by_set true false l w v i f e = (omega arith, omega arith)
by_set true true false w v i f e = (omega arith, omega arith)
by_set true true true true v i f e = absurd (true≢false e)
by_set true true true false v i f e = (omega arith, omega arith)

by_witnesses : (s z l w v i f : Bool) → v ≡ false → UpTo 22 (chain s z l w v i f)
unfolding refuse ◌else◌ rank tried lowest
by_witnesses false z l w v i f e = (omega arith, omega arith)
by_witnesses true false l w v i f e = (omega arith, omega arith)
by_witnesses true true false w v i f e = (omega arith, omega arith)
by_witnesses true true true false v i f e = (omega arith, omega arith)
by_witnesses true true true true true i f e = absurd (true≢false e)
by_witnesses true true true true false i f e = (omega arith, omega arith)

by_leader : (s z l w v i f : Bool) → (s ≡ true → z ≡ true → l ≡ true → i ≡ false) → UpTo 12 (chain s z l w v i f)
unfolding refuse ◌else◌ rank tried lowest
by_leader false z l w v i f h = (omega arith, omega arith)
by_leader true false l w v i f h = (omega arith, omega arith)
by_leader true true false w v i f h = (omega arith, omega arith)
by_leader true true true false v i f h = (omega arith, omega arith)
by_leader true true true true false i f h = (omega arith, omega arith)
by_leader true true true true true true f h = absurd (true≢false (h refl refl refl))
by_leader true true true true true false f h = (omega arith, omega arith)

by_first : (s z l w v i f : Bool) → (s ≡ true → z ≡ true → l ≡ true → f ≡ false) → UpTo 21 (chain s z l w v i f)
unfolding refuse ◌else◌ rank tried lowest
by_first false z l w v i f h = (omega arith, omega arith)
by_first true false l w v i f h = (omega arith, omega arith)
by_first true true false w v i f h = (omega arith, omega arith)
by_first true true true false v i f h = (omega arith, omega arith)
by_first true true true true false i f h = (omega arith, omega arith)
by_first true true true true true false f h = (omega arith, omega arith)
by_first true true true true true true true h = absurd (true≢false (h refl refl refl))
by_first true true true true true true false h = (omega arith, omega arith)

-- what is refused fails the test of its number
shown : (P : ℕ → Type 0) (s z l w v i f : Bool) → (s ≡ false → P 1) → (z ≡ false → P 2) → (l ≡ false → P 3) → (w ≡ false → P 11) → (v ≡ false → P 22)
    → (s ≡ true → z ≡ true → l ≡ true → i ≡ false → P 12) → (s ≡ true → z ≡ true → l ≡ true → f ≡ false → P 21)
    → ¬ (chain s z l w v i f ≡ 0) → P (chain s z l w v i f)
unfolding refuse ◌else◌
shown P false z l w v i f p q r t o u x h = p refl
shown P true false l w v i f p q r t o u x h = q refl
shown P true true false w v i f p q r t o u x h = r refl
shown P true true true false v i f p q r t o u x h = t refl
shown P true true true true false i f p q r t o u x h = o refl
shown P true true true true true false f p q r t o u x h = u refl refl refl refl
shown P true true true true true true false p q r t o u x h = x refl refl refl refl
shown P true true true true true true true p q r t o u x h = absurd (h refl)

-- no refusal that applies stands before the one that is answered
first_of_lem : {P : ℕ → Type 0} {r : ℕ} → (¬ (r ≡ 0) → P r) → ((q : ℕ) → P q → UpTo q r) → FirstApplying P r
first_of_lem f g = record {
  applies = f;
  before = λ q l p. let u = g q p in omega (arith, u.1);
  none = λ z q p. let u = g q p in omega (arith, u.0);
}

-- ---- the tests

not_so : (t : Bool) → ¬ (t ≡ true) → t ≡ false
not_so true h = absurd (h refl)
not_so false h = refl

so_not : {t : Bool} → t ≡ false → ¬ (t ≡ true)
so_not e f = true≢false (sym f ∙ e)

within : (n c : ℕ) → is_replica n c ≡ true → (1 ≤ c) × (c ≤ n)
unfolding is_replica
within n c e = (leb-true 1 c (and_left (leb 1 c) (leb c n) e), leb-true c n (and_right (leb 1 c) (leb c n) e))

module _ (Z : Shape) (leading present : ℕ) (b : Bytes) where
  -- the seven tests
  abbrev counts : Bool
  counts = is_slots Z.m

  abbrev names : Bool
  names = is_size Z.n && is_edition Z.edition

  abbrev fits : Bool
  fits = eqb (length b) (image_at Z Z.n)

  abbrev bits : Bool
  bits = ltb present (2 ^ Z.n)

  abbrev boxes : Bool
  boxes = ltb Z.witnesses (2 ^ Z.n)

  abbrev may : Bool
  may = may_lead (setting_of Z leading present) (views_in (setting_of Z leading present) b)

  abbrev leads : Bool
  leads = is_replica Z.n leading && may

  abbrev begins : Bool
  begins = same_firsts (setting_of Z leading present) (views_in (setting_of Z leading present) b)

  abbrev unrefused : Bool
  unrefused = eqb (read_refusal Z leading (image_part Z b (pred leading))) 0

  names_not : names ≡ false → ClusterRefused Z leading present b 2
  names_not e = go (is_size Z.n) (is_edition Z.edition) refl refl
    where
      go : (x y : Bool) → is_size Z.n ≡ x → is_edition Z.edition ≡ y → ClusterRefused Z leading present b 2
      go false y p q = replicas (λ h. so_not p (is_size_lem Z.n (omega (arith, h.0)) (omega (arith, h.1))))
      go true false p q = edition (λ h. so_not q (is_edition_lem Z.edition (omega (arith, h.0)) (omega (arith, h.1))))
      go true true p q = absurd (so_not e (and_true (is_size Z.n) (is_edition Z.edition) p q))

  module _ (s : counts ≡ true) (z : names ≡ true) (l : fits ≡ true) where
    -- a replica is readable if it is in the set and its own image is not refused
    each : (c : ℕ) → c < Z.n → (views_in (setting_of Z leading present) b c).readable ≡ has present c && eqb (read_refusal Z (suc c) (image_part Z b c)) 0
    each c h =
        own_refusal Z leading present b c (and_left (is_size Z.n) (is_edition Z.edition) z) (and_right (is_size Z.n) (is_edition Z.edition) z) s
        (eqb-true (length b) (image_at Z Z.n) l) h

    -- the leader by its number
    own : (1 ≤ leading) × (leading ≤ Z.n) → (views_in (setting_of Z leading present) b (pred leading)).readable ≡ has present (pred leading) && unrefused
    own h =
        let e = suc-pred-eq_of_pos h.0 in
        let k : pred leading < Z.n = subst (λ (x : ℕ). x ≤ Z.n) (sym e) h.1 in
        subst
        (λ (x : ℕ). (views_in (setting_of Z leading present) b (pred leading)).readable ≡ has present (pred leading) && eqb (read_refusal Z x (image_part Z b (pred leading))) 0)
        e
        (each (pred leading) k)

    led : leads ≡ true → has present (pred leading) && unrefused ≡ true
    unfolding setting_of
    led e =
        sym (own (within Z.n leading (and_left (is_replica Z.n leading) may e)))
        ∙ lead_reads (setting_of Z leading present) (views_in (setting_of Z leading present) b) (and_right (is_replica Z.n leading) may e)

    leads_not : leads ≡ false → ClusterRefused Z leading present b 12
    unfolding has may_lead setting_of is_witness
    leads_not e = go (is_replica Z.n leading) (has present (pred leading)) unrefused (has Z.witnesses (pred leading)) refl refl refl refl
      where
        go : (x y u v : Bool) → is_replica Z.n leading ≡ x → has present (pred leading) ≡ y → unrefused ≡ u → has Z.witnesses (pred leading) ≡ v
            → ClusterRefused Z leading present b 12
        go false y u v p q r o = no_leader (λ h. so_not p (is_replica_lem Z.n leading h.0 h.1))
        go true false u v p q r o = away (λ h. so_not q (eq-eqb (present / 2 ^ pred leading % 2) 1 h))
        go true true false v p q r o = unreadable (λ h. so_not r (eq-eqb (read_refusal Z leading (image_part Z b (pred leading))) 0 h))
        go true true true true p q r o = leader_witness (eqb-true (Z.witnesses / 2 ^ pred leading % 2) 1 o)
        go true true true false p q r o =
            absurd (so_not e (and_true (is_replica Z.n leading) may p
            (and_true (views_in (setting_of Z leading present) b (pred leading)).readable (not (has Z.witnesses (pred leading)))
            (own (within Z.n leading p) ∙ and_true (has present (pred leading)) unrefused q r) (ap not o))))

    begins_not : begins ≡ false → ClusterRefused Z leading present b 21
    unfolding has setting_of
    begins_not e =
        let o = same_other (setting_of Z leading present) (views_in (setting_of Z leading present) b) e in
        let r = sym (each o.at o.within) ∙ o.reads in
        other_first o.at (omega (arith, o.within)) (eqb-true (present / 2 ^ o.at % 2) 1 (and_left (has present o.at) (eqb (read_refusal Z (suc o.at) (image_part Z b o.at)) 0) r))
        (omega (arith, eqb-true (read_refusal Z (suc o.at) (image_part Z b o.at)) 0 (and_right (has present o.at) (eqb (read_refusal Z (suc o.at) (image_part Z b o.at)) 0) r)))
        (λ q. o.differs (omega (arith, q, view_first (setting_of Z leading present) b o.at, view_first (setting_of Z leading present) b (pred leading))))

    begins_off : (c : ℕ) → c < Z.n → InSet present c → read_refusal Z (suc c) (image_part Z b c) ≡ 0 → ¬ (first_at Z b c ≡ first_at Z b (pred leading)) → begins ≡ false
    unfolding has setting_of
    begins_off c h i r q =
        same_off (setting_of Z leading present) (views_in (setting_of Z leading present) b) c h
        (each c h ∙ and_true (has present c) (eqb (read_refusal Z (suc c) (image_part Z b c)) 0) (eq-eqb (present / 2 ^ c % 2) 1 i) (eq-eqb (read_refusal Z (suc c) (image_part Z b c)) 0 r))
        (λ e. q (omega (arith, e, view_first (setting_of Z leading present) b c, view_first (setting_of Z leading present) b (pred leading))))

  applies : ¬ (cluster_refusal Z leading present b ≡ 0) → ClusterRefused Z leading present b (cluster_refusal Z leading present b)
  unfolding cluster_refusal shape_refusal
  applies h =
      shown (ClusterRefused Z leading present b) counts names fits bits boxes leads begins
      (λ e. slots (λ p. so_not e (is_slots_lem Z.m p.0 p.1)))
      names_not
      (λ e. size (λ p. so_not e (eq-eqb (length b) (image_at Z Z.n) p)))
      (λ e. let i = high_one Z.n present (λ p. so_not e (lt-ltb present (2 ^ Z.n) p)) in stray i.at (omega (arith, i.from)) i.is)
      (λ e. let i = high_one Z.n Z.witnesses (λ p. so_not e (lt-ltb Z.witnesses (2 ^ Z.n) p)) in stray_witness i.at (omega (arith, i.from)) i.is)
      leads_not
      begins_not
      h

  at_most : (q : ℕ) → ClusterRefused Z leading present b q → UpTo q (cluster_refusal Z leading present b)
  unfolding cluster_refusal shape_refusal has setting_of is_witness
  at_most q (slots h) = by_slots counts names fits bits boxes leads begins (not_so counts (λ e. h (slots_low Z.m e, slots_high Z.m e)))
  at_most q (replicas h) =
      by_replicas counts names fits bits boxes leads begins
      (not_so names (λ e. let s = and_left (is_size Z.n) (is_edition Z.edition) e in h (omega (arith, size_low Z.n s), omega (arith, size_high Z.n s))))
  at_most q (edition h) =
      by_replicas counts names fits bits boxes leads begins
      (not_so names (λ e. let s = and_right (is_size Z.n) (is_edition Z.edition) e in h (omega (arith, edition_from Z.edition s), omega (arith, edition_to Z.edition s))))
  at_most q (size h) = by_size counts names fits bits boxes leads begins (not_so fits (λ e. h (eqb-true (length b) (image_at Z Z.n) e)))
  at_most q (stray c l h) = by_set counts names fits bits boxes leads begins (not_so bits (λ e. no_high_one Z.n present c (ltb-true present (2 ^ Z.n) e) (omega arith) h))
  at_most q (stray_witness c l h) =
      by_witnesses counts names fits bits boxes leads begins (not_so boxes (λ e. no_high_one Z.n Z.witnesses c (ltb-true Z.witnesses (2 ^ Z.n) e) (omega arith) h))
  at_most q (no_leader h) =
      by_leader counts names fits bits boxes leads begins
      (λ s z l. not_so leads (λ e. h (within Z.n leading (and_left (is_replica Z.n leading) may e))))
  at_most q (away h) =
      by_leader counts names fits bits boxes leads begins
      (λ s z l. not_so leads (λ e. h (eqb-true (present / 2 ^ pred leading % 2) 1 (and_left (has present (pred leading)) unrefused (led s z l e)))))
  at_most q (unreadable h) =
      by_leader counts names fits bits boxes leads begins
      (λ s z l. not_so leads (λ e. h (eqb-true (read_refusal Z leading (image_part Z b (pred leading))) 0 (and_right (has present (pred leading)) unrefused (led s z l e)))))
  at_most q (leader_witness h) =
      by_leader counts names fits bits boxes leads begins
      (λ s z l. not_so leads (λ e. so_not (lead_card (setting_of Z leading present) (views_in (setting_of Z leading present) b) (and_right (is_replica Z.n leading) may e)) (eq-eqb (Z.witnesses / 2 ^ pred leading % 2) 1 h)))
  at_most q (other_first c h i r d) = by_first counts names fits bits boxes leads begins (λ s z l. begins_off s z l c (omega (arith, h)) i (omega (arith, r)) d)

  pub cluster_first : FirstApplying (ClusterRefused Z leading present b) (cluster_refusal Z leading present b)
  cluster_first = first_of_lem applies at_most

  -- every number stands before 13
  ranked : (q : ℕ) → ClusterRefused Z leading present b q → rank q ≤ rank 13
  unfolding rank tried lowest
  ranked q (slots h) = omega arith
  ranked q (replicas h) = omega arith
  ranked q (edition h) = omega arith
  ranked q (size h) = omega arith
  ranked q (stray c l h) = omega arith
  ranked q (stray_witness c l h) = omega arith
  ranked q (no_leader h) = omega arith
  ranked q (away h) = omega arith
  ranked q (unreadable h) = omega arith
  ranked q (leader_witness h) = omega arith
  ranked q (other_first c h i r d) = omega arith

  -- in edition 1 the logs begin at one index
  pub never_other : Z.edition ≡ 1 → ¬ (cluster_refusal Z leading present b ≡ 21)
  unfolding setting_of
  never_other one e = go (cluster_refusal Z leading present b) e (applies (λ z. omega arith))
    where
      at_one : (c : ℕ) → first_at Z b c ≡ 1
      at_one c = sym (view_first (setting_of Z leading present) b c) ∙ first_one (setting_of Z leading present) b c one

      go : (q : ℕ) → q ≡ 21 → ClusterRefused Z leading present b q → ⊥
      go q e (slots h) = omega arith
      go q e (replicas h) = omega arith
      go q e (edition h) = omega arith
      go q e (size h) = omega arith
      go q e (stray c l h) = omega arith
      go q e (stray_witness c l h) = omega arith
      go q e (no_leader h) = omega arith
      go q e (away h) = omega arith
      go q e (unreadable h) = omega arith
      go q e (leader_witness h) = omega arith
      go q e (other_first c h i r d) = d (at_one c ∙ sym (at_one (pred leading)))

-- ---- 13, after the others

lent_shown : (P : ℕ → Type 0) (r : ℕ) (t : Bool) → (¬ (r ≡ 0) → P r) → (t ≡ false → P 13) → ¬ ((r else refuse 13 (not t)) ≡ 0) → P (r else refuse 13 (not t))
unfolding refuse ◌else◌
lent_shown P zero true f g h = absurd (h refl)
lent_shown P zero false f g h = g refl
lent_shown P (suc r) t f g h = f (λ e. omega (arith, e))

lent_lower : (r : ℕ) (t : Bool) (q : ℕ) → UpTo q r → UpTo q (r else refuse 13 (not t))
unfolding refuse ◌else◌
lent_lower zero t q u = absurd (omega (arith, u.0))
lent_lower (suc r) t q u = u

by_lent : (r : ℕ) (t : Bool) → (¬ (r ≡ 0) → rank r ≤ rank 13) → t ≡ false → UpTo 13 (r else refuse 13 (not t))
unfolding refuse ◌else◌
by_lent zero true h e = absurd (true≢false e)
by_lent zero false h e = (omega arith, omega arith)
by_lent (suc r) t h e = (omega arith, h (omega arith))

module _ (Z : Shape) (leading present : ℕ) (b : Bytes) (bytes rows : ℕ) where
  abbrev lent : Bool
  lent = eqb bytes Z.m && eqb rows Z.n

  early : ¬ (cluster_refusal Z leading present b ≡ 0) → rank (cluster_refusal Z leading present b) ≤ rank 13
  early h = ranked Z leading present b (cluster_refusal Z leading present b) (applies Z leading present b h)

  lent_not : lent ≡ false → PlanRefused Z leading present b bytes rows 13
  lent_not e = go (eqb bytes Z.m) (eqb rows Z.n) refl refl
    where
      go : (x y : Bool) → eqb bytes Z.m ≡ x → eqb rows Z.n ≡ y → PlanRefused Z leading present b bytes rows 13
      go false y p q = plan (λ h. so_not p (eq-eqb bytes Z.m h))
      go true false p q = table (λ h. so_not q (eq-eqb rows Z.n h))
      go true true p q = absurd (so_not e (and_true (eqb bytes Z.m) (eqb rows Z.n) p q))

  plan_at_most : (q : ℕ) → PlanRefused Z leading present b bytes rows q → UpTo q (plan_refusal Z leading present b bytes rows)
  unfolding plan_refusal lent_refusal
  plan_at_most q (cluster r) = lent_lower (cluster_refusal Z leading present b) lent q (at_most Z leading present b q r)
  plan_at_most q (plan h) = by_lent (cluster_refusal Z leading present b) lent early (not_so lent (λ e. h (eqb-true bytes Z.m (and_left (eqb bytes Z.m) (eqb rows Z.n) e))))
  plan_at_most q (table h) = by_lent (cluster_refusal Z leading present b) lent early (not_so lent (λ e. h (eqb-true rows Z.n (and_right (eqb bytes Z.m) (eqb rows Z.n) e))))

  pub plan_first : FirstApplying (PlanRefused Z leading present b bytes rows) (plan_refusal Z leading present b bytes rows)
  unfolding plan_refusal lent_refusal
  plan_first =
      first_of_lem
      (lent_shown (PlanRefused Z leading present b bytes rows) (cluster_refusal Z leading present b) lent (λ h. cluster (applies Z leading present b h)) lent_not)
      plan_at_most
