-- Calls for cards and calls for witnesses: what a call that is not refused tells, and which refusal it is.
use Prim.Native.Nat.{ℕ, zero, suc}
use mathlib.Core.Path.{◌≡◌, refl, sym, ap, ◌∙◌}
use mathlib.Core.Bool.{Bool, true, false, not, ◌&&◌}
use lib.Dec.{eqb}
use lib.ListN.{length}
use borrow.Author.Tests.{not-false}
use Rattle.slices.specs.Parts.{Bytes}
use Rattle.record.specs.declared.Shape.{Shape}
use Rattle.record.specs.Layout.{is_witness}
use Rattle.image.specs.Refusal.{refuse, ◌else◌}
use Rattle.image.specs.Image.{image_size, decode_image}
use Rattle.image.specs.View.{named_refusal, call_refusal, image_refusal, read_refusal, kind_refusal, witness_refusal}
use Rattle.image.proofs.RefusalLaws.{refuse_zero, refuse_off, else_next, else_first, else_zero_l, else_zero_r}

-- the refusal of the numbers that a call names, if they are the call's
pub named_as : (Z : Shape) (c : ℕ) {d r : ℕ} → d ≡ c → r ≡ named_refusal Z d → r ≡ named_refusal Z c
named_as Z c q h = rw q at h

-- what a number of the call refuses, it refuses first
named_twice : (n r s : ℕ) → (n else ((n else r) else s)) ≡ ((n else r) else s)
unfolding ◌else◌
named_twice zero r s = refl
named_twice (suc n) r s = refl

chained : (n img : ℕ) (w s : Bool) → (n else refuse 3 w else ((n else refuse 3 (not s)) else img)) ≡ ((n else refuse 3 (not (not w && s))) else img)
unfolding refuse ◌else◌
chained zero img true s = refl
chained zero img false true = refl
chained zero img false false = refl
chained (suc n) img w s = refl

-- the kind that is asked for is the call's
pub kind_is : (Z : Shape) (c : ℕ) (b : Bytes) {o w : Bool} {r : ℕ} → r ≡ kind_refusal o Z c b → o ≡ w → r ≡ kind_refusal w Z c b
kind_is Z c b h e = rw e at h

-- of either kind
module _ (other : Bool) (Z : Shape) (c : ℕ) (b : Bytes) where
  pub kind_own : kind_refusal other Z c b ≡ 0 → other ≡ false
  unfolding kind_refusal
  kind_own h = refuse_zero 2 other (else_zero_l _ _ (else_zero_r (named_refusal Z c) _ h))

  pub kind_readable : kind_refusal other Z c b ≡ 0 → read_refusal Z c b ≡ 0
  unfolding kind_refusal
  kind_readable h = else_zero_r _ _ (else_zero_r (named_refusal Z c) _ h)

  -- one of its own kind is refused as any image is
  pub kind_as_read : other ≡ false → kind_refusal other Z c b ≡ read_refusal Z c b
  unfolding kind_refusal read_refusal call_refusal
  kind_as_read own =
      ap (λ (r : ℕ). named_refusal Z c else r) (else_next _ (refuse_off 3 own))
      ∙ named_twice (named_refusal Z c) (refuse 3 (not (eqb (length b) (image_size Z c)))) (image_refusal Z.m (decode_image Z c b))

  pub kind_intro : other ≡ false → read_refusal Z c b ≡ 0 → kind_refusal other Z c b ≡ 0
  kind_intro own h = kind_as_read own ∙ h

  -- which refusal it is, test by test
  module _ {r : ℕ} (is : r ≡ named_refusal Z c) where
    pub kind_named : ¬ (r ≡ 0) → r ≡ kind_refusal other Z c b
    unfolding kind_refusal
    kind_named h = is ∙ sym (else_first (named_refusal Z c) _ (λ e. h (is ∙ e)))

    pub kind_none : r ≡ 0 → other ≡ true → 3 ≡ kind_refusal other Z c b
    unfolding kind_refusal refuse ◌else◌
    kind_none none wrong = sym (else_next _ (sym is ∙ none) ∙ rw wrong)

  -- one chain of tests
  pub kind_chain : kind_refusal other Z c b ≡ ((named_refusal Z c else refuse 3 (not (not other && eqb (length b) (image_size Z c)))) else image_refusal Z.m (decode_image Z c b))
  unfolding kind_refusal read_refusal call_refusal
  kind_chain = chained (named_refusal Z c) (image_refusal Z.m (decode_image Z c b)) other (eqb (length b) (image_size Z c))

-- a call for witnesses
module _ (Z : Shape) (c : ℕ) (b : Bytes) where
  pub witness_witness : witness_refusal Z c b ≡ 0 → is_witness Z c ≡ true
  witness_witness h = not-false (is_witness Z c) (kind_own _ Z c b h)

  twice_not : (w s : Bool) → (not (not w) && s) ≡ (w && s)
  twice_not true s = refl
  twice_not false s = refl

  pub witness_chain : witness_refusal Z c b ≡ ((named_refusal Z c else refuse 3 (not (is_witness Z c && eqb (length b) (image_size Z c)))) else image_refusal Z.m (decode_image Z c b))
  witness_chain = kind_chain _ Z c b ∙ rw (twice_not (is_witness Z c) (eqb (length b) (image_size Z c)))
