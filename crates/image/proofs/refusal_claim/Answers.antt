-- The claim's parts are laws.
use Prim.Native.Nat.{ℕ, ◌+◌, ◌-◌, ◌≤◌, ◌<◌}
use mathlib.Core.Path.{◌≡◌, refl, sym, ◌∙◌}
use mathlib.Core.Bool.{true, false, true≢false}
use mathlib.Core.Logic.{◌⊎◌, inl, inr, ⊎_elim}
use native.Mathlib.Omega.{arith}
use native.Mathlib.Decide.{ℕ_discrete, dec_lt}
use Rattle.slices.specs.Parts.{Bytes}
use Rattle.record.specs.declared.Shape.{Shape}
use Rattle.slices.proofs.SameLaws.{not_so}
use Rattle.record.specs.Layout.{gives_first}
use Rattle.record.specs.Meaning.{is_first}
use Rattle.record.proofs.LayoutLaws.{gives_two, gives_other}
use Rattle.record.proofs.HeaderLaws.{first_low, last_high, first_one, is_first_lem}
use Rattle.image.specs.Image.{decode_image}
use Rattle.image.specs.View.{log_length, named_refusal, card_refusal, witness_refusal}
use Rattle.image.specs.Append.{last_epoch, append_refusal}
use Rattle.image.specs.Witness.{record_refusal}
use Rattle.image.specs.RefusalClaim.{FirstRefused, zero_first, other_first, last_past, FormatRefused, AppendRefused, RecordRefused}
use Rattle.image.proofs.RefusalLaws.{else_first, else_next}
use Rattle.image.proofs.CallLaws.{slots_high, named_slots_in, edition_from, edition_to, named_edition_in, format_named, format_first, format_bytes, format_none}
use Rattle.image.proofs.AppendSteps.{bare, deny_zero, deny_lower, deny_long, deny_full, deny_none}
use Rattle.image.proofs.RefusedLaws.{lowest_wins, lowest_card, lowest_witness}
use Rattle.image.proofs.KindLaws.{kind_as_read}
use Rattle.image.proofs.refusal_claim.Goals as goal

-- ---- a first index

no-first : (Z : Shape) (c first : ℕ) → named_refusal Z c ≡ 0 → FirstRefused Z first → is_first Z first ≡ false
no-first Z c first r (zero_first h) = not_so (is_first Z first) (λ t. omega (arith, first_low Z first t))
no-first Z c first r (other_first e h) = not_so (is_first Z first) (λ t. h (first_one Z first t (gives_other Z (λ two. omega arith))))
no-first Z c first r (last_past h) = not_so (is_first Z first) (λ t. omega (arith, last_high Z first t (slots_high Z.m (named_slots_in Z c r))))

some_first : (Z : Shape) (c first : ℕ) → named_refusal Z c ≡ 0 → ¬ (FirstRefused Z first) → is_first Z first ≡ true
some_first Z c first r h =
    is_first_lem Z first (low (ℕ_discrete first 0)) (high (dec_lt 4294967295 (first + (Z.m - 1)))) (λ e. one (ℕ_discrete first 1) (edition e (ℕ_discrete Z.edition 2)))
  where
    low : Dec (first ≡ 0) → 1 ≤ first
    low (yes q) = absurd (h (zero_first q))
    low (no q) = omega arith

    high : Dec (4294967295 < first + (Z.m - 1)) → first + (Z.m - 1) ≤ 4294967295
    high (yes q) = absurd (h (last_past q))
    high (no q) = omega arith

    edition : gives_first Z ≡ false → Dec (Z.edition ≡ 2) → Z.edition ≡ 1
    edition e (yes q) = absurd (true≢false (sym (gives_two Z q) ∙ e))
    edition e (no q) = omega (arith, edition_from Z.edition (named_edition_in Z c r), edition_to Z.edition (named_edition_in Z c r), q)

    one : Dec (first ≡ 1) → Z.edition ≡ 1 → first ≡ 1
    one (yes q) e = q
    one (no q) e = absurd (h (other_first e q))

format_refused : (Z : Shape) (c first size : ℕ) → FormatRefused Z c first size
format_refused Z c first size = record {
  one_two = λ h. sym (format_named Z c first size refl h);
  twenty = λ r f. sym (format_first Z c first size refl r (no-first Z c first r f));
  three = λ r f s. sym (format_bytes Z c first size refl r (some_first Z c first r f) s);
  none = λ r f s. sym (format_none Z c first size refl r (some_first Z c first r f) s);
}

append_refused : (Z : Shape) (c : ℕ) (b : Bytes) (e size : ℕ)
    → AppendRefused Z c b e size (log_length Z.m (decode_image Z c b)) (last_epoch Z.m (decode_image Z c b))
unfolding append_refusal
append_refused Z c b e size = record {
  one_to_seven = λ h. else_first _ _ h;
  eight = low;
  nine = λ r p q s. else_next _ r ∙ sym (deny_long last len Z.m e size (λ z. omega arith) q s);
  ten = λ r p q s l. else_next _ r ∙ sym (deny_full last len Z.m e size (λ z. omega arith) q s (omega arith));
  none = λ r p q s l. else_next _ r ∙ sym (deny_none last len Z.m e size (λ z. omega arith) q s l);
}
  where
    len : ℕ
    len = log_length Z.m (decode_image Z c b)

    last : ℕ
    last = last_epoch Z.m (decode_image Z c b)

    lower : card_refusal Z c b ≡ 0 → e < last → Dec (e ≡ 0) → append_refusal Z c b e size ≡ 8
    lower r h (yes z) = else_next _ r ∙ sym (deny_zero last len Z.m e size z)
    lower r h (no z) = else_next _ r ∙ sym (deny_lower last len Z.m e size z h)

    low : card_refusal Z c b ≡ 0 → (e ≡ 0) ⊎ (e < last) → append_refusal Z c b e size ≡ 8
    low r (inl z) = else_next _ r ∙ sym (deny_zero last len Z.m e size z)
    low r (inr h) = lower r h (ℕ_discrete e 0)

-- a witness's has no payload: as one of 0 bytes
record_refused : (Z : Shape) (c : ℕ) (b : Bytes) (e : ℕ) → RecordRefused Z c b e (log_length Z.m (decode_image Z c b)) (last_epoch Z.m (decode_image Z c b))
unfolding record_refusal
record_refused Z c b e = record {
  one_to_seven = λ h. else_first _ _ h;
  eight = λ r h. ⊎_elim (λ z. zero-epoch r (omega (arith, z))) (λ l. lower r (omega (arith, l)) (ℕ_discrete e 0)) h;
  ten = λ r p q l. else_next _ r ∙ sym (bare _ _) ∙ sym (deny_full last len Z.m e 0 (λ z. omega arith) q (omega arith) (omega arith));
  none = λ r p q l. else_next _ r ∙ sym (bare _ _) ∙ sym (deny_none last len Z.m e 0 (λ z. omega arith) q (omega arith) (omega (arith, l)));
}
  where
    len : ℕ
    len = log_length Z.m (decode_image Z c b)

    last : ℕ
    last = last_epoch Z.m (decode_image Z c b)

    lower : witness_refusal Z c b ≡ 0 → e < last → Dec (e ≡ 0) → record_refusal Z c b e ≡ 8
    lower r h (yes z) = else_next _ r ∙ sym (bare _ _) ∙ sym (deny_zero last len Z.m e 0 z)
    lower r h (no z) = else_next _ r ∙ sym (bare _ _) ∙ sym (deny_lower last len Z.m e 0 z h)

    zero-epoch : witness_refusal Z c b ≡ 0 → e ≡ 0 → record_refusal Z c b e ≡ 8
    zero-epoch r z = else_next _ r ∙ sym (bare _ _) ∙ sym (deny_zero last len Z.m e 0 z)

pub returns : goal.returns
returns c =
    record {
      reading = lowest_wins;
      cards = lowest_card;
      witnesses = lowest_witness;
      card_as_before = λ Z c b card. kind_as_read _ Z c b card;
      formatting = format_refused;
      appending = append_refused;
      recording = record_refused;
    }
