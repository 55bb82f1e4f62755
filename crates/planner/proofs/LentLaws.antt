-- Refusal 13, and the refusal of planning as a whole.
use Prim.Native.Nat.{ℕ}
use mathlib.Core.Path.{◌≡◌, refl, sym, ◌∙◌}
use mathlib.Core.Bool.{true, ◌&&◌}
use lib.Dec.{eqb}
use borrow.Author.Tests.{eq-eqb, ne_eqb, eqb-true, not-false}
use Rattle.slices.specs.Parts.{Bytes}
use Rattle.slices.proofs.SameLaws.{and_left, and_right}
use Rattle.record.specs.declared.Shape.{Shape}
use Rattle.image.specs.Refusal.{refuse, ◌else◌}
use Rattle.image.proofs.RefusalLaws.{refuse_zero, else_first, else_zero_l, else_zero_r}
use Rattle.planner.specs.Plan.{cluster_refusal, lent_refusal, plan_refusal}

module _ (refusal : ℕ) (Z : Shape) (bytes rows : ℕ) where
  pub lent_first : (refusal ≡ 0 → ⊥) → refusal ≡ lent_refusal refusal Z bytes rows
  unfolding lent_refusal
  lent_first e = sym (else_first refusal _ e)

  module _ (z : refusal ≡ 0) where
    pub lent_plan : (bytes ≡ Z.m → ⊥) → 13 ≡ lent_refusal refusal Z bytes rows
    unfolding lent_refusal refuse ◌else◌
    lent_plan e = rw (z, ne_eqb bytes Z.m e) refl

    module _ (q : bytes ≡ Z.m) where
      pub lent_table : (rows ≡ Z.n → ⊥) → 13 ≡ lent_refusal refusal Z bytes rows
      unfolding lent_refusal refuse ◌else◌
      lent_table e = rw (z, eq-eqb bytes Z.m q, ne_eqb rows Z.n e) refl

      pub lent_none : rows ≡ Z.n → 0 ≡ lent_refusal refusal Z bytes rows
      unfolding lent_refusal refuse ◌else◌
      lent_none e = rw (z, eq-eqb bytes Z.m q, eq-eqb rows Z.n e) refl

  module _ {r : ℕ} (e : r ≡ lent_refusal refusal Z bytes rows) (z : r ≡ 0) where
    pub lent_zero : refusal ≡ 0
    unfolding lent_refusal
    lent_zero = else_zero_l refusal _ (sym e ∙ z)

    both : (eqb bytes Z.m && eqb rows Z.n) ≡ true
    unfolding lent_refusal
    both = not-false _ (refuse_zero 12 _ (else_zero_r refusal _ (sym e ∙ z)))

    pub lent_bytes : bytes ≡ Z.m
    lent_bytes = eqb-true bytes Z.m (and_left (eqb bytes Z.m) (eqb rows Z.n) both)

    pub lent_rows : rows ≡ Z.n
    lent_rows = eqb-true rows Z.n (and_right (eqb bytes Z.m) (eqb rows Z.n) both)

pub refusal_is : (Z : Shape) (leader present : ℕ) (b : Bytes) (bytes rows : ℕ) {r v : ℕ} → r ≡ lent_refusal v Z bytes rows → v ≡ cluster_refusal Z leader present b
    → r ≡ plan_refusal Z leader present b bytes rows
unfolding lent_refusal plan_refusal
refusal_is Z leader present b bytes rows e q = e ∙ rw q refl
