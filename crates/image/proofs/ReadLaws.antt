-- The answers of reading, case by case.
use Prim.Native.Nat.{ℕ}
use mathlib.Core.Path.{◌≡◌, sym, ap, ◌∙◌}
use mathlib.Core.Bool.{true, false, not, ◌&&◌}
use mathlib.Core.List.{List}
use lib.Dec.{eqb}
use lib.ListN.{length}
use borrow.Author.Tests.{eq-eqb, ne_eqb}
use Rattle.search.specs.Search.{listed}
use Rattle.search.proofs.ListedLaws.{listed_cong}
use Rattle.slices.specs.Parts.{Bytes}
use Rattle.slices.proofs.SameLaws.{and_off}
use Rattle.record.specs.declared.Shape.{Shape}
use Rattle.record.specs.Layout.{is_witness}
use Rattle.image.specs.Refusal.{refuse, unless_refused}
use Rattle.image.specs.Image.{Image, image_size, decode_image}
use Rattle.image.specs.View.{epoch_at, is_slots, call_refusal, image_refusal, read_refusal, card_refusal, witness_refusal}
use Rattle.image.specs.declared.condition.Condition.TheVariants.{Unused}
use Rattle.image.specs.declared.condition.Slot.{Slot}
use Rattle.image.specs.Seen.{slot_of, slot_in, Seen}
use Rattle.image.specs.Scan.{Marked}
use Rattle.image.specs.Read.{lent_refusal, epochs_of, verdicts_of}
use Rattle.image.specs.Witness.{epochs_refusal}
use Rattle.image.specs.Answers.{Numbered, refused, value, numbered}
use Rattle.image.proofs.RefusalLaws.{else_first, else_next, else_zero_l, refuse_on, refuse_off}
use Rattle.image.proofs.CallLaws.{called_slots, called_size}
use Rattle.image.proofs.KindLaws.{kind_own, kind_readable}
use Rattle.image.proofs.ScannedLaws.{taken_at}

-- ---- refusals 1 to 7

module _ (Z : Shape) (c : ℕ) (b : Bytes) (r : ℕ) where
  pub open_refused : r ≡ call_refusal Z c (length b) → ¬ (r ≡ 0) → r ≡ read_refusal Z c b
  unfolding read_refusal
  open_refused e h = sym (else_first (call_refusal Z c (length b)) (image_refusal Z.m (decode_image Z c b)) (λ z. h (e ∙ z)) ∙ sym e)

  pub open_view : (q : ℕ) → q ≡ call_refusal Z c (length b) → q ≡ 0 → r ≡ image_refusal Z.m (decode_image Z c b) → r ≡ read_refusal Z c b
  unfolding read_refusal
  open_view q e h s = s ∙ sym (else_next (image_refusal Z.m (decode_image Z c b)) (sym e ∙ h))

  call_passed : read_refusal Z c b ≡ 0 → call_refusal Z c (length b) ≡ 0
  unfolding read_refusal
  call_passed h = else_zero_l (call_refusal Z c (length b)) (image_refusal Z.m (decode_image Z c b)) h

  -- a card's image that is not refused
  module _ (e : r ≡ card_refusal Z c b) (h : r ≡ 0) where
    pub opened_slots : is_slots Z.m ≡ true
    opened_slots = called_slots Z c (length b) (call_passed (kind_readable _ Z c b (sym e ∙ h)))

    pub opened_size : length b ≡ image_size Z c
    opened_size = called_size Z c (length b) (call_passed (kind_readable _ Z c b (sym e ∙ h)))

    pub opened_card : is_witness Z c ≡ false
    opened_card = kind_own _ Z c b (sym e ∙ h)

  -- and a witness's
  module _ (e : r ≡ witness_refusal Z c b) (h : r ≡ 0) where
    pub witnessed_slots : is_slots Z.m ≡ true
    witnessed_slots = called_slots Z c (length b) (call_passed (kind_readable _ Z c b (sym e ∙ h)))

    pub witnessed_size : length b ≡ image_size Z c
    witnessed_size = called_size Z c (length b) (call_passed (kind_readable _ Z c b (sym e ∙ h)))

-- ---- reading a card's image

module _ (Z : Shape) (c : ℕ) (b : Bytes) (es vs r : ℕ) (e : r ≡ card_refusal Z c b) where
  pub lent_refused : ¬ (r ≡ 0) → lent_refusal Z c b es vs ≡ r
  unfolding lent_refusal
  lent_refused h = else_first (card_refusal Z c b) _ (λ z. h (e ∙ z)) ∙ sym e

  module _ (h : r ≡ 0) where
    lent_next : lent_refusal Z c b es vs ≡ refuse 13 (not (eqb es Z.m && eqb vs Z.m))
    unfolding lent_refusal
    lent_next = else_next _ (sym e ∙ h)

    pub lent_epochs : ¬ (es ≡ Z.m) → lent_refusal Z c b es vs ≡ 13
    lent_epochs k = lent_next ∙ refuse_on 13 (rw (ne_eqb es Z.m k))

    pub lent_verdicts : ¬ (vs ≡ Z.m) → lent_refusal Z c b es vs ≡ 13
    lent_verdicts k = lent_next ∙ refuse_on 13 (rw (ne_eqb vs Z.m k, and_off (eqb es Z.m)))

    pub lent_none : es ≡ Z.m → vs ≡ Z.m → lent_refusal Z c b es vs ≡ 0
    lent_none k l = lent_next ∙ refuse_off 13 (rw (eq-eqb es Z.m k, eq-eqb vs Z.m l))

-- a refused call changes nothing lent
pub read_refused : {A : Type 0} {q r : ℕ} → q ≡ r → ¬ (r ≡ 0) → (log : A) (x es y vs : List ℕ)
    → (refused r ≡ numbered q log) × (es ≡ unless_refused q x es) × (vs ≡ unless_refused q y vs)
unfolding numbered unless_refused
read_refused {q = q} {r = r} e h log x es y vs = (sym (rw (e, off)), sym (rw (e, off)), sym (rw (e, off)))
  where
    off : eqb r 0 ≡ false
    off = ne_eqb r 0 h

pub read_done : {q : ℕ} → q ≡ 0 → (len begins used first : ℕ) (x es es' y vs vs' : List ℕ) → used ≡ len → first ≡ begins → es' ≡ x → vs' ≡ y
    → (◌≡◌ {A = Numbered (ℕ × ℕ)} (value (used, first)) (numbered q (len, begins))) × (es' ≡ unless_refused q x es) × (vs' ≡ unless_refused q y vs)
unfolding numbered unless_refused
read_done {q} e len begins used first x es es' y vs vs' l f p v = (rw (e, l, f), rw (e, p), rw (e, v))

-- ---- reading a witness's

module _ (Z : Shape) (c : ℕ) (b : Bytes) (es r : ℕ) (e : r ≡ witness_refusal Z c b) where
  pub epochs_refused : ¬ (r ≡ 0) → epochs_refusal Z c b es ≡ r
  unfolding epochs_refusal
  epochs_refused h = else_first (witness_refusal Z c b) _ (λ z. h (e ∙ z)) ∙ sym e

  module _ (h : r ≡ 0) where
    pub epochs_lent : ¬ (es ≡ Z.m) → epochs_refusal Z c b es ≡ 13
    unfolding epochs_refusal
    epochs_lent k = else_next _ (sym e ∙ h) ∙ refuse_on 13 (rw (ne_eqb es Z.m k))

    pub epochs_none : es ≡ Z.m → epochs_refusal Z c b es ≡ 0
    unfolding epochs_refusal
    epochs_none k = else_next _ (sym e ∙ h) ∙ refuse_off 13 (rw (eq-eqb es Z.m k))

pub witness_refused : {A : Type 0} {q r : ℕ} → q ≡ r → ¬ (r ≡ 0) → (log : A) (x es : List ℕ)
    → (refused r ≡ numbered q log) × (es ≡ unless_refused q x es)
unfolding numbered unless_refused
witness_refused {q = q} {r = r} e h log x es = (sym (rw (e, off)), sym (rw (e, off)))
  where
    off : eqb r 0 ≡ false
    off = ne_eqb r 0 h

pub witness_done : {q : ℕ} → q ≡ 0 → (len begins used first : ℕ) (x es es' : List ℕ) → used ≡ len → first ≡ begins → es' ≡ x
    → (◌≡◌ {A = Numbered (ℕ × ℕ)} (value (used, first)) (numbered q (len, begins))) × (es' ≡ unless_refused q x es)
unfolding numbered unless_refused
witness_done {q} e len begins used first x es es' l f p = (rw (e, l, f), rw (e, p))

-- ---- what is filled

-- what the view tells is what the buffers are filled from
module _ (m : ℕ) (i : Image) {first : ℕ} (used : ℕ) (slots : List Slot) (s : Seen m i first used slots) where
  pub seen_verdicts : {vs : List ℕ} → (Marked m i used slots → vs ≡ verdicts_of m i) → vs ≡ verdicts_of m i
  seen_verdicts f = f (record { length_is = s.length_is; slots_are = s.slots_are })

  pub seen_epochs : (l : ℕ) {es : List ℕ} → l ≡ m → es ≡ listed l (λ k. (slot_in slots k).epoch) → es ≡ epochs_of m i
  unfolding epochs_of
  seen_epochs l h e =
      e ∙ rw h (listed_cong m (λ k. (slot_in slots k).epoch) (epoch_at i) (λ k h. ap (λ (v : Slot). v.epoch) (taken_at m (slot_of i) slots (record { condition = Unused; epoch = 0 }) s.slots_are k h)))
