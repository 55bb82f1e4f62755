-- The rules look at the readable replicas alone: views that agree there have one plan.
use Prim.Native.Nat.{ℕ, ◌<◌}
use mathlib.Core.Path.{◌≡◌, refl, ◌∙◌, ap}
use mathlib.Core.Bool.{Bool, true, false, cond, not, ◌&&◌}
use native.Mathlib.Omega.{arith}
use lib.Dec.{eqb, ltb}
use borrow.Author.Tests.{ltb-true}
use Rattle.slices.proofs.SameLaws.{and_off}
use Rattle.search.specs.Search.{lowest, count}
use Rattle.search.proofs.SearchLaws.{lowest_cong}
use Rattle.search.proofs.CountLaws.{count_cong}
use Rattle.image.specs.View.{View}
use Rattle.image.specs.Read.{is_whole}
use Rattle.planner.specs.Setting.{Setting}
use Rattle.planner.specs.Rules.{is_truncate, is_wait, answers, agrees, have, dont_have, donor, rule, end, first_waiting}
use Rattle.planner.specs.Plan.{rule_byte, plan_byte}
use Rattle.planner.proofs.RuleLaws.{end_le}

-- the views of the readable replicas agree at slot k
pub record SameAt (n : ℕ) (U W : ℕ → View) (k : ℕ) : Type 0 where
  pub readables : (c : ℕ) → c < n → (U c).readable ≡ (W c).readable
  pub conditions : (c : ℕ) → c < n → (W c).readable ≡ true → (U c).condition k ≡ (W c).condition k
  pub epochs : (c : ℕ) → c < n → (W c).readable ≡ true → (U c).epoch k ≡ (W c).epoch k

module _ (S T : Setting) (U W : ℕ → View) (en : S.shape.n ≡ T.shape.n) (el : S.leader ≡ T.leader) (lead : T.leader < T.shape.n) (ok : (W T.leader).readable ≡ true) where
  module _ (k : ℕ) (same : SameAt T.shape.n U W k) where
    answers_cong : (c : ℕ) → c < T.shape.n → answers S U c ≡ answers T W c
    unfolding answers
    answers_cong c h = rw (el, same.readables c h) refl

    agrees_cong : (c : ℕ) → c < T.shape.n → (W c).readable ≡ true → agrees S U c k ≡ agrees T W c k
    unfolding agrees
    agrees_cong c h r = rw (el, same.conditions c h r, same.epochs c h r, same.epochs T.leader lead ok) refl

    silent : (P : ℕ → View) (c : ℕ) (x : Bool) → (P c).readable ≡ false → (answers T P c && x) ≡ false
    unfolding answers
    silent P c x r = rw (r, and_off (not (eqb c T.leader))) refl

    have_cong : (c : ℕ) → c < T.shape.n → have S U k c ≡ have T W k c
    unfolding have
    have_cong c h = go (W c).readable refl
      where
        go : (t : Bool) → (W c).readable ≡ t → have S U k c ≡ have T W k c
        go true r = rw (answers_cong c h, same.conditions c h r, agrees_cong c h r) refl
        go false r = rw (answers_cong c h, silent W c (is_whole ((U c).condition k)) r, silent W c (is_whole ((W c).condition k)) r) refl

    lacks_cong : (c : ℕ) → c < T.shape.n → dont_have S U k c ≡ dont_have T W k c
    unfolding dont_have
    lacks_cong c h = go (W c).readable refl
      where
        go : (t : Bool) → (W c).readable ≡ t → dont_have S U k c ≡ dont_have T W k c
        go true r = rw (answers_cong c h, agrees_cong c h r) refl
        go false r = rw (answers_cong c h, silent W c (not (agrees S U c k)) r, silent W c (not (agrees T W c k)) r) refl

    donor_cong : donor S U k ≡ donor T W k
    unfolding donor
    donor_cong = ap (lowest (have S U k)) en ∙ lowest_cong (have S U k) (have T W k) T.shape.n have_cong

    condition_cong : (U S.leader).condition k ≡ (W T.leader).condition k
    condition_cong = rw el (same.conditions T.leader lead ok)

    pub rule_cong : rule S U k ≡ rule T W k
    unfolding rule
    rule_cong =
        let a = condition_cong in
        let b = donor_cong in
        let d = ap (count (dont_have S U k)) en ∙ count_cong (dont_have S U k) (dont_have T W k) T.shape.n lacks_cong in
        cc

  module _ (l : (U S.leader).length ≡ (W T.leader).length) (same : (k : ℕ) → k < (W T.leader).length → SameAt T.shape.n U W k) where
    pub end_cong : end S U ≡ end T W
    unfolding end
    end_cong =
        rw l (lowest_cong (λ k. is_truncate (rule S U k)) (λ k. is_truncate (rule T W k)) (W T.leader).length (λ k h. ap is_truncate (rule_cong k (same k h))))

    pub waiting_cong : first_waiting S U ≡ first_waiting T W
    unfolding first_waiting
    waiting_cong =
        rw end_cong (lowest_cong (λ k. is_wait (rule S U k)) (λ k. is_wait (rule T W k)) (end T W) (λ k h. ap is_wait (rule_cong k (same k (omega (arith, end_le T W))))))

    pub byte_cong : (k : ℕ) → plan_byte S U k ≡ plan_byte T W k
    unfolding plan_byte
    byte_cong k = rw (l, end_cong) (go (ltb k (W T.leader).length) refl)
      where
        go : (t : Bool) → ltb k (W T.leader).length ≡ t
            → cond t (cond (ltb (end T W) k) 5 (rule_byte (rule S U k) ((U S.leader).condition k) (donor S U k))) 0
            ≡ cond t (cond (ltb (end T W) k) 5 (rule_byte (rule T W k) ((W T.leader).condition k) (donor T W k))) 0
        go true e = let s = same k (ltb-true k (W T.leader).length e) in rw (rule_cong k s, condition_cong k s, donor_cong k s) refl
        go false e = refl
