-- The leader alone: its bit is no other replica's, nobody answers, and nothing is cut.
use Prim.Native.Nat.{ℕ, pred, suc, ◌+◌, ◌-◌, ◌/◌, ◌%◌, ◌^◌, ◌<◌}
use mathlib.Core.Path.{◌≡◌, refl, sym, ap, ◌∙◌}
use mathlib.Core.Bool.{Bool, true, false, cond, not, ◌&&◌}
use native.Mathlib.Omega.{arith}
use native.Mathlib.Decide.{dec_lt, ℕ_discrete}
use native.Mathlib.Nat.{div-eq_of_lt, mul-mod_left, pow-suc}
use lib.Dec.{eqb}
use lib.Pow.{pow-add, pow-lt, shl-shr}
use borrow.Author.Tests.{eq-eqb, ne_eqb, lt-ltb, le-ltb}
use Rattle.search.specs.Search.{count}
use Rattle.search.proofs.CountLaws.{count_none}
use Rattle.search.proofs.SearchLaws.{lowest_is}
use Rattle.slices.specs.Parts.{Bytes}
use Rattle.record.specs.declared.Shape.{Shape}
use Rattle.image.specs.View.{View, view_of, seen_as, is_size}
use Rattle.image.proofs.CallLaws.{size_low}
use Rattle.search.specs.Sets.{has}
use Rattle.planner.specs.Setting.{Setting, setting_of, views_of}
use Rattle.planner.specs.Rules.{is_faulty, is_truncate, Wait, may_truncate, answers, have, dont_have, donor, rule, end}
use Rattle.planner.specs.Plan.{views_in, kept_byte, rule_byte, plan_byte}
use Rattle.planner.proofs.MajorityLaws.{majority_least, waits_if}
use Rattle.planner.proofs.RuleLaws.{keeps, no_donor, donor_is}
use Rattle.report.specs.SetClaim.{alone}

-- ---- one bit

-- bit c of 2 to the power j
bit_above : (j c : ℕ) → j < c → 2 ^ j / 2 ^ c % 2 ≡ 0
bit_above j c h = rw (div-eq_of_lt (pow-lt {i = j} {j = c} h)) refl

bit_below : (d c : ℕ) → 2 ^ (suc d + c) / 2 ^ c % 2 ≡ 0
bit_below d c = rw (pow-add 2 (suc d) c, shl-shr (2 ^ suc d) c, pow-suc 2 d) (mul-mod_left (2 ^ d) 2)

bit_own : (j : ℕ) → 2 ^ j / 2 ^ j % 2 ≡ 1
bit_own j = let e : 2 ^ j / 2 ^ j ≡ 1 = ap (λ (x : ℕ). x / 2 ^ j) (omega arith) ∙ shl-shr 1 j in rw e refl

pub one_member : (j c : ℕ) → has (2 ^ j) c ≡ eqb c j
unfolding has
one_member j c = go (ℕ_discrete c j) (dec_lt c j)
  where
    off : ¬ (c ≡ j) → 2 ^ j / 2 ^ c % 2 ≡ 0 → eqb (2 ^ j / 2 ^ c % 2) 1 ≡ eqb c j
    off q z = ap (λ (x : ℕ). eqb x 1) z ∙ sym (ne_eqb c j q)

    go : Dec (c ≡ j) → Dec (c < j) → eqb (2 ^ j / 2 ^ c % 2) 1 ≡ eqb c j
    go (yes e) _ = rw (e, bit_own j) (sym (eq-eqb j j refl))
    go (no q) (yes l) = let g : j ≡ suc (j - suc c) + c = omega (arith, l) in off q (ap (λ (x : ℕ). 2 ^ x / 2 ^ c % 2) g ∙ bit_below (j - suc c) c)
    go (no q) (no l) = off q (bit_above j c (omega (arith, q, l)))

-- ---- who answers

module _ (Z : Shape) (leader : ℕ) (b : Bytes) (sized : is_size Z.n ≡ true) where
  abbrev S : Setting
  S = alone Z leader

  abbrev W : ℕ → View
  W = views_in S b

  silent : (c : ℕ) → answers S W c ≡ false
  unfolding answers views_in views_of seen_as view_of setting_of
  silent c = rw (one_member (pred leader) c) (go (eqb c (pred leader)) _)
    where
      go : (t x : Bool) → (not t && (t && x)) ≡ false
      go true x = refl
      go false x = refl

  no_have : (k c : ℕ) → have S W k c ≡ false
  unfolding have
  no_have k c = rw (silent c) refl

  no_dont : (k c : ℕ) → dont_have S W k c ≡ false
  unfolding dont_have
  no_dont k c = rw (silent c) refl

  kept : (k : ℕ) → may_truncate Z.n (count (dont_have S W k) Z.n) ≡ false
  kept k = waits_if Z.n _ (omega (arith, count_none (dont_have S W k) Z.n (λ c h. no_dont k c), majority_least Z.n, size_low Z.n sized))

  faulty_waits : (k : ℕ) → is_faulty ((W (pred leader)).condition k) ≡ true → rule S W k ≡ Wait
  unfolding setting_of
  faulty_waits k f = no_donor S W k f (donor_is S W k Z.n (omega arith) (λ c h. no_have k c) (λ h. absurd (omega (arith, h)))) ∙ rw (kept k) refl

  stands : (k : ℕ) → is_truncate (rule S W k) ≡ false
  unfolding is_truncate setting_of
  stands k = go (is_faulty ((W (pred leader)).condition k)) refl
    where
      go : (t : Bool) → is_faulty ((W (pred leader)).condition k) ≡ t → is_truncate (rule S W k) ≡ false
      go true f = rw (faulty_waits k f) refl
      go false f = rw (keeps S W k f) refl

  pub whole_log : end S W ≡ (W (pred leader)).length
  unfolding end setting_of
  whole_log = lowest_is (λ k. is_truncate (rule S W k)) _ _ (omega arith) (λ k h. stands k) (λ h. absurd (omega (arith, h)))

  -- w is the byte of a slot that waits
  pub alone_byte : (k : ℕ) {w : ℕ} → k < (W (pred leader)).length → w ≡ 3
      → plan_byte S W k ≡ cond (is_faulty ((W (pred leader)).condition k)) w (kept_byte ((W (pred leader)).condition k))
  unfolding plan_byte rule_byte setting_of
  alone_byte k {w} h q =
      rw (lt-ltb k (W (pred leader)).length h, whole_log, le-ltb (W (pred leader)).length k (omega (arith, h))) (go (is_faulty ((W (pred leader)).condition k)) refl)
    where
      go : (t : Bool) → is_faulty ((W (pred leader)).condition k) ≡ t
          → rule_byte (rule S W k) ((W (pred leader)).condition k) (donor S W k) ≡ cond t w (kept_byte ((W (pred leader)).condition k))
      go true f = rw (faulty_waits k f) (sym q)
      go false f = rw (keeps S W k f) refl
