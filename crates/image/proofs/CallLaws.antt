-- Refusals 1 to 3, test by test.
use Prim.Native.Nat.{ℕ, ◌≤◌, ◌<◌}
use mathlib.Core.Path.{◌≡◌, sym, ◌∙◌}
use mathlib.Core.Bool.{true, false, ◌&&◌}
use native.Mathlib.Omega.{arith}
use lib.Dec.{leb}
use borrow.Author.Tests.{leb-true, le-leb, lt-leb, eqb-true, eq-eqb, ne_eqb, not-false}
use Rattle.slices.proofs.SameLaws.{and_left, and_right, and_off}
use Rattle.record.specs.declared.Shape.{Shape}
use Rattle.record.specs.Meaning.{is_first}
use Rattle.image.specs.Refusal.{refuse, ◌else◌}
use Rattle.image.specs.Image.{image_size}
use Rattle.image.specs.View.{is_size, is_replica, is_slots, is_edition, named_refusal, call_refusal}
use Rattle.image.specs.Append.{format_refusal}
use Rattle.image.proofs.RefusalLaws.{refuse_zero, else_first, else_next, else_zero, else_zero_l, else_zero_r}

-- ---- a number within its bounds

module _ (low high x : ℕ) where
  below : x < low → (leb low x && leb x high) ≡ false
  below h = rw (lt-leb low x h)

  above : high < x → (leb low x && leb x high) ≡ false
  above h = rw (lt-leb x high h) (simp and_off)

  within : low ≤ x → x ≤ high → (leb low x && leb x high) ≡ true
  within h k = rw (le-leb low x h, le-leb x high k)

  from : (leb low x && leb x high) ≡ true → low ≤ x
  from e = leb-true low x (and_left (leb low x) (leb x high) e)

  up_to : (leb low x && leb x high) ≡ true → x ≤ high
  up_to e = leb-true x high (and_right (leb low x) (leb x high) e)

-- ---- how many slots there may be

module _ (m : ℕ) where
  pub slots_few : m < 1 → is_slots m ≡ false
  unfolding is_slots
  slots_few h = below _ _ m (omega (arith, h))

  pub slots_many : 64 < m → is_slots m ≡ false
  unfolding is_slots
  slots_many h = above _ _ m (omega (arith, h))

  pub is_slots_lem : 1 ≤ m → m ≤ 64 → is_slots m ≡ true
  unfolding is_slots
  is_slots_lem h k = within _ _ m (omega (arith, h)) (omega (arith, k))

  pub slots_low : is_slots m ≡ true → 1 ≤ m
  unfolding is_slots
  slots_low e = omega (arith, from _ _ m e)

  pub slots_high : is_slots m ≡ true → m ≤ 64
  unfolding is_slots
  slots_high e = omega (arith, up_to _ _ m e)

-- ---- how many replicas there may be, and which

module _ (n : ℕ) where
  pub size_few : n < 3 → is_size n ≡ false
  unfolding is_size
  size_few h = below _ _ n (omega (arith, h))

  pub size_many : 7 < n → is_size n ≡ false
  unfolding is_size
  size_many h = above _ _ n (omega (arith, h))

  pub is_size_lem : 3 ≤ n → n ≤ 7 → is_size n ≡ true
  unfolding is_size
  is_size_lem h k = within _ _ n (omega (arith, h)) (omega (arith, k))

  pub size_low : is_size n ≡ true → 3 ≤ n
  unfolding is_size
  size_low e = omega (arith, from _ _ n e)

  pub size_high : is_size n ≡ true → n ≤ 7
  unfolding is_size
  size_high e = omega (arith, up_to _ _ n e)

module _ (n c : ℕ) where
  pub replica_low : c < 1 → is_replica n c ≡ false
  unfolding is_replica
  replica_low h = below _ _ c h

  pub replica_high : n < c → is_replica n c ≡ false
  unfolding is_replica
  replica_high h = above _ _ c h

  pub is_replica_lem : 1 ≤ c → c ≤ n → is_replica n c ≡ true
  unfolding is_replica
  is_replica_lem h k = within _ _ c h k

-- ---- the editions

module _ (e : ℕ) where
  pub edition_low : e < 1 → is_edition e ≡ false
  unfolding is_edition
  edition_low h = below _ _ e (omega (arith, h))

  pub edition_high : 2 < e → is_edition e ≡ false
  unfolding is_edition
  edition_high h = above _ _ e (omega (arith, h))

  pub is_edition_lem : 1 ≤ e → e ≤ 2 → is_edition e ≡ true
  unfolding is_edition
  is_edition_lem h k = within _ _ e (omega (arith, h)) (omega (arith, k))

  pub edition_from : is_edition e ≡ true → 1 ≤ e
  unfolding is_edition
  edition_from h = omega (arith, from _ _ e h)

  pub edition_to : is_edition e ≡ true → e ≤ 2
  unfolding is_edition
  edition_to h = omega (arith, up_to _ _ e h)

-- ---- the refusals

-- 1 and 2
module _ (Z : Shape) (c : ℕ) where
  pub named_slots : is_slots Z.m ≡ false → 1 ≡ named_refusal Z c
  unfolding named_refusal refuse ◌else◌
  named_slots h = sym (rw h)

  module _ (slots : is_slots Z.m ≡ true) where
    pub named_size : is_size Z.n ≡ false → 2 ≡ named_refusal Z c
    unfolding named_refusal refuse ◌else◌
    named_size h = sym (rw (slots, h))

    pub named_edition : is_edition Z.edition ≡ false → 2 ≡ named_refusal Z c
    unfolding named_refusal refuse ◌else◌
    named_edition h = sym (rw (slots, h, and_off (is_size Z.n)))

    pub named_replica : is_replica Z.n c ≡ false → 2 ≡ named_refusal Z c
    unfolding named_refusal refuse ◌else◌
    named_replica h = sym (rw (slots, h, and_off (is_size Z.n && is_edition Z.edition)))

    pub named_none : is_size Z.n ≡ true → is_edition Z.edition ≡ true → is_replica Z.n c ≡ true → 0 ≡ named_refusal Z c
    unfolding named_refusal refuse ◌else◌
    named_none h e r = sym (rw (slots, h, e, r))

-- what holds of numbers that are not refused
pub named_slots_in : (Z : Shape) (c : ℕ) → named_refusal Z c ≡ 0 → is_slots Z.m ≡ true
unfolding named_refusal
named_slots_in Z c none = not-false _ (refuse_zero 0 _ (else_zero_l _ _ none))

pub named_edition_in : (Z : Shape) (c : ℕ) → named_refusal Z c ≡ 0 → is_edition Z.edition ≡ true
unfolding named_refusal
named_edition_in Z c none =
    and_right (is_size Z.n) (is_edition Z.edition)
    (and_left (is_size Z.n && is_edition Z.edition) (is_replica Z.n c) (not-false _ (refuse_zero 1 _ (else_zero_r _ _ none))))

-- then 3
module _ (Z : Shape) (c size : ℕ) {r : ℕ} (is : r ≡ named_refusal Z c) where
  pub call_named : ¬ (r ≡ 0) → r ≡ call_refusal Z c size
  unfolding call_refusal
  call_named h = is ∙ sym (else_first (named_refusal Z c) _ (λ e. h (is ∙ e)))

  module _ (none : r ≡ 0) where
    pub call_bytes : ¬ (size ≡ image_size Z c) → 3 ≡ call_refusal Z c size
    unfolding call_refusal refuse
    call_bytes h = sym (else_next _ (sym is ∙ none) ∙ rw (ne_eqb size (image_size Z c) h))

    pub call_none : size ≡ image_size Z c → 0 ≡ call_refusal Z c size
    unfolding call_refusal refuse
    call_none h = sym (else_next _ (sym is ∙ none) ∙ rw (eq-eqb size (image_size Z c) h))

-- what holds of a call that is not refused
module _ (Z : Shape) (c size : ℕ) (none : call_refusal Z c size ≡ 0) where
  pub called_named : named_refusal Z c ≡ 0
  unfolding call_refusal
  called_named = else_zero_l (named_refusal Z c) _ none

  pub called_slots : is_slots Z.m ≡ true
  called_slots = named_slots_in Z c called_named

  pub called_size : size ≡ image_size Z c
  unfolding call_refusal
  called_size = eqb-true size (image_size Z c) (not-false _ (refuse_zero 2 _ (else_zero_r (named_refusal Z c) _ none)))

-- ---- a fresh image: 20 before 3

module _ (Z : Shape) (c first size : ℕ) {r : ℕ} (is : r ≡ named_refusal Z c) where
  pub format_named : ¬ (r ≡ 0) → r ≡ format_refusal Z c first size
  unfolding format_refusal
  format_named h = is ∙ sym (else_first (named_refusal Z c) _ (λ e. h (is ∙ e)))

  module _ (none : r ≡ 0) where
    pub format_first : is_first Z first ≡ false → 20 ≡ format_refusal Z c first size
    unfolding format_refusal refuse ◌else◌
    format_first h = sym (else_next _ (sym is ∙ none) ∙ rw h)

    module _ (begins : is_first Z first ≡ true) where
      pub format_bytes : ¬ (size ≡ image_size Z c) → 3 ≡ format_refusal Z c first size
      unfolding format_refusal refuse ◌else◌
      format_bytes h = sym (else_next _ (sym is ∙ none) ∙ rw (begins, ne_eqb size (image_size Z c) h))

      pub format_none : size ≡ image_size Z c → 0 ≡ format_refusal Z c first size
      unfolding format_refusal refuse ◌else◌
      format_none h = sym (else_next _ (sym is ∙ none) ∙ rw (begins, eq-eqb size (image_size Z c) h))

module _ (Z : Shape) (c first size : ℕ) (none : format_refusal Z c first size ≡ 0) where
  formatted_named : named_refusal Z c ≡ 0
  unfolding format_refusal
  formatted_named = else_zero_l (named_refusal Z c) _ none

  pub formatted_first : is_first Z first ≡ true
  unfolding format_refusal
  formatted_first = not-false _ (refuse_zero 19 _ (else_zero_l _ _ (else_zero_r (named_refusal Z c) _ none)))

  -- it passes what every call about an image asks
  pub formatted_call : call_refusal Z c size ≡ 0
  unfolding format_refusal call_refusal
  formatted_call = else_zero formatted_named (else_zero_r _ _ (else_zero_r (named_refusal Z c) _ none))
