-- When an append is accepted, and when it is refused by its epoch.
use Prim.Native.Nat.{ℕ, suc, ◌-◌, ◌≤◌, ◌<◌}
use mathlib.Core.Path.{◌≡◌, refl, sym, ◌∙◌}
use mathlib.Core.Bool.{Bool, true, false, ◌||◌, true≢false}
use native.Mathlib.Omega.{arith}
use lib.Dec.{eqb, leb, ltb}
use lib.ListN.{length}
use borrow.Author.Tests.{eqb-false, ne_eqb, ltb-false, leb-false, lt-ltb, le-ltb, lt-leb}
use Rattle.slices.specs.Parts.{Bytes, part}
use Rattle.record.specs.declared.Shape.{Shape}
use Rattle.record.specs.Layout.{is_witness}
use Rattle.record.specs.Meaning.{Record, good, blank, bad, Entry, intact, broken, read_record}
use Rattle.record.proofs.RecordLaws.{good_for, epoch_low}
use Rattle.record.proofs.EntryLaws.{intact_for}
use Rattle.image.specs.Refusal.{refuse, ◌else◌}
use Rattle.image.specs.Image.{Image, index, first_in, image_size, record_at, entry_at, decode_image}
use Rattle.image.specs.View.{condition, epoch_of, is_blank, is_lost, condition_at, epoch_at, log_length, read_refusal, card_refusal, witness_refusal}
use Rattle.image.specs.Append.{last_epoch, append_refusal}
use Rattle.image.specs.Witness.{record_refusal}
use Rattle.image.specs.AppendClaim.{AtLastEpoch}
use Rattle.image.proofs.RefusalLaws.{refuse_on, refuse_off, refuse_zero, else_next, else_first, else_zero, else_zero_l, else_zero_r}
use Rattle.image.proofs.CallLaws.{called_size}
use Rattle.image.proofs.KindLaws.{kind_readable}
use Rattle.image.proofs.ViewLaws.{Sound, sound_elim, length_le, used_below}
use Rattle.image.proofs.DecodeLaws.{record_there, entry_there, none_there}

-- ---- refusals

or_off_left : (a b : Bool) → (a || b) ≡ false → a ≡ false
or_off_left true b e = e
or_off_left false b e = refl

or_off_right : (a b : Bool) → (a || b) ≡ false → b ≡ false
or_off_right true b e = absurd (true≢false e)
or_off_right false b e = e

-- an image that is not refused
pub readable_size : (Z : Shape) (c : ℕ) (b : Bytes) → read_refusal Z c b ≡ 0 → length b ≡ image_size Z c
unfolding read_refusal
readable_size Z c b h = called_size Z c (length b) (else_zero_l _ _ h)

pub readable_image : (Z : Shape) (c : ℕ) (b : Bytes) → read_refusal Z c b ≡ 0 → Sound Z.m (decode_image Z c b)
unfolding read_refusal
readable_image Z c b h = sound_elim Z.m (decode_image Z c b) (else_zero_r _ _ h)

-- an append to a card is accepted
pub record Accepts (Z : Shape) (c : ℕ) (b : Bytes) (e size : ℕ) : Type 0 where
  pub readable : card_refusal Z c b ≡ 0
  pub positive : 0 < e
  pub rising : last_epoch Z.m (decode_image Z c b) ≤ e
  pub short : size ≤ 200
  pub room : log_length Z.m (decode_image Z c b) < Z.m

module _ (Z : Shape) (c : ℕ) (b : Bytes) (e size : ℕ) where
  pub accepts_elim : append_refusal Z c b e size ≡ 0 → Accepts Z c b e size
  unfolding append_refusal
  accepts_elim h = record {
    readable = else_zero_l (card_refusal Z c b) (r8 else r9 else r10) h;
    positive = omega (arith, eqb-false e 0 (or_off_left (eqb e 0) (ltb e last) off8));
    rising = ltb-false e last (or_off_right (eqb e 0) (ltb e last) off8);
    short = ltb-false 200 size (refuse_zero 8 (ltb 200 size) (else_zero_l r9 r10 e₂));
    room = leb-false Z.m len (refuse_zero 9 (leb Z.m len) (else_zero_r r9 r10 e₂));
  }
    where
      last : ℕ
      last = last_epoch Z.m (decode_image Z c b)

      len : ℕ
      len = log_length Z.m (decode_image Z c b)

      r8 : ℕ
      r8 = refuse 8 (eqb e 0 || ltb e last)

      r9 : ℕ
      r9 = refuse 9 (ltb 200 size)

      r10 : ℕ
      r10 = refuse 10 (leb Z.m len)

      e₁ : (r8 else r9 else r10) ≡ 0
      e₁ = else_zero_r (card_refusal Z c b) (r8 else r9 else r10) h

      e₂ : (r9 else r10) ≡ 0
      e₂ = else_zero_r r8 (r9 else r10) e₁

      off8 : (eqb e 0 || ltb e last) ≡ false
      off8 = refuse_zero 7 (eqb e 0 || ltb e last) (else_zero_l r8 (r9 else r10) e₁)

  pub accepts_intro : Accepts Z c b e size → append_refusal Z c b e size ≡ 0
  unfolding append_refusal
  accepts_intro a =
      else_zero a.readable
      (else_zero (refuse_off 8 (rw (ne_eqb e 0 (λ q. omega (arith, a.positive)), le-ltb e last a.rising)))
      (else_zero (refuse_off 9 (le-ltb 200 size a.short)) (refuse_off 10 (lt-leb Z.m len a.room))))
    where
      last : ℕ
      last = last_epoch Z.m (decode_image Z c b)

      len : ℕ
      len = log_length Z.m (decode_image Z c b)

  -- an epoch below the last one is refused before anything else of the append
  pub refused_lower : card_refusal Z c b ≡ 0 → e < last_epoch Z.m (decode_image Z c b) → append_refusal Z c b e size ≡ 8
  unfolding append_refusal
  refused_lower r h =
      let last = last_epoch Z.m (decode_image Z c b) in
      let low : (eqb e 0 || ltb e last) ≡ true = rw (lt-ltb e last h) (or_right (eqb e 0)) in
      let on = refuse_on 8 low in
      else_next _ r ∙ else_first _ _ (λ q. absurd (let z : ◌≡◌ {A = ℕ} 8 0 = sym on ∙ q in omega (arith, z))) ∙ on
    where
      or_right : (t : Bool) → (t || true) ≡ true
      or_right true = refl
      or_right false = refl

-- an append to a witness is accepted
pub record RecordAccepts (Z : Shape) (c : ℕ) (b : Bytes) (e : ℕ) : Type 0 where
  pub readable : witness_refusal Z c b ≡ 0
  pub positive : 0 < e
  pub rising : last_epoch Z.m (decode_image Z c b) ≤ e
  pub room : log_length Z.m (decode_image Z c b) < Z.m

pub record_accepts_elim : (Z : Shape) (c : ℕ) (b : Bytes) (e : ℕ) → record_refusal Z c b e ≡ 0 → RecordAccepts Z c b e
unfolding record_refusal
record_accepts_elim Z c b e h = record {
  readable = else_zero_l (witness_refusal Z c b) (r8 else r10) h;
  positive = omega (arith, eqb-false e 0 (or_off_left (eqb e 0) (ltb e last) off8));
  rising = ltb-false e last (or_off_right (eqb e 0) (ltb e last) off8);
  room = leb-false Z.m len (refuse_zero 9 (leb Z.m len) (else_zero_r r8 r10 e₁));
}
  where
    last : ℕ
    last = last_epoch Z.m (decode_image Z c b)

    len : ℕ
    len = log_length Z.m (decode_image Z c b)

    r8 : ℕ
    r8 = refuse 8 (eqb e 0 || ltb e last)

    r10 : ℕ
    r10 = refuse 10 (leb Z.m len)

    e₁ : (r8 else r10) ≡ 0
    e₁ = else_zero_r (witness_refusal Z c b) (r8 else r10) h

    off8 : (eqb e 0 || ltb e last) ≡ false
    off8 = refuse_zero 7 (eqb e 0 || ltb e last) (else_zero_l r8 r10 e₁)

-- ---- the last epoch

pub last_epoch_lem : (m : ℕ) (i : Image) (j : ℕ) → suc j ≡ log_length m i → last_epoch m i ≡ epoch_at i j
unfolding last_epoch
last_epoch_lem m i j q = let z : suc j - 1 ≡ j = omega arith in rw (← q, z, ne_eqb (suc j) 0 (λ x. omega arith))

-- a used slot that is not lost has an epoch
used_epoch : (k : ℕ) (b : Bytes) (r : Record) (x : Entry) → read_record k b ≡ r → ((e : ℕ) (y : Bytes) → x ≡ intact e y → 0 < e) → is_blank r ≡ false → is_lost (condition r x) ≡ false
    → 0 < epoch_of r x
unfolding is_blank is_lost condition epoch_of
used_epoch k b (good e) x p q u v = epoch_low e (good_for k b e p).epoch
used_epoch k b blank x p q u v = absurd (true≢false u)
used_epoch k b (bad z) (intact e y) p q u v = q e y refl
used_epoch k b (bad z) (broken y) p q u v = absurd (true≢false v)

-- no entry is both
not_both : {e : ℕ} {y z : Bytes} → intact e y ≡ broken z → ⊥
not_both q = let z : ◌≡◌ {A = ℕ} 0 1 = cc in omega arith

-- an intact entry has one, and a witness has none that is intact
entry_epoch_lem : (Z : Shape) (c : ℕ) (b : Bytes) (k : ℕ) → k < Z.m → (e : ℕ) (y : Bytes) → (decode_image Z c b).entries k ≡ intact e y → 0 < e
entry_epoch_lem Z c b k km e y q = go (is_witness Z c) refl
  where
    go : (t : Bool) → is_witness Z c ≡ t → 0 < e
    go true w = absurd (not_both (sym q ∙ none_there Z c b k w))
    go false w = epoch_low e (intact_for (index (first_in Z c b) k) (part b (entry_at Z k) 240) e y (sym (entry_there Z c b k w km) ∙ q)).epoch

module _ (Z : Shape) (c : ℕ) (b : Bytes) (s : Sound Z.m (decode_image Z c b)) where
  pub epoch_positive : (k : ℕ) → k < log_length Z.m (decode_image Z c b) → 0 < epoch_at (decode_image Z c b) k
  unfolding epoch_at
  epoch_positive k h =
      let i = decode_image Z c b in
      let km : k < Z.m = omega (arith, length_le Z.m i) in
      used_epoch (index (first_in Z c b) k) (part b (record_at Z k) 34) (i.records k) (i.entries k)
      (sym (record_there Z c b k km)) (entry_epoch_lem Z c b k km) (used_below Z.m i k h) (unfold condition_at in s.kept k km)

  pub last_positive : 0 < log_length Z.m (decode_image Z c b) → 0 < last_epoch Z.m (decode_image Z c b)
  last_positive h =
      let j = log_length Z.m (decode_image Z c b) - 1 in
      rw (last_epoch_lem Z.m (decode_image Z c b) j (omega arith)) (epoch_positive j (omega arith))

  pub rising_last : (e : ℕ) → last_epoch Z.m (decode_image Z c b) ≤ e → (j : ℕ) → suc j ≡ log_length Z.m (decode_image Z c b) → epoch_at (decode_image Z c b) j ≤ e
  rising_last e h j q = rw (last_epoch_lem Z.m (decode_image Z c b) j q) at h

-- at the last epoch, and one lower
pub last_epoch_again : (Z : Shape) (c : ℕ) (b : Bytes) (size : ℕ) → card_refusal Z c b ≡ 0 → 0 < log_length Z.m (decode_image Z c b)
    → log_length Z.m (decode_image Z c b) < Z.m → size ≤ 200 → AtLastEpoch Z c b size
last_epoch_again Z c b size r h l z =
    let s = readable_image Z c b (kind_readable _ Z c b r) in
    let p = last_positive Z c b s h in
    record {
      same = accepts_intro Z c b _ size (record { readable = r; positive = p; rising = omega arith; short = z; room = l });
      lower = refused_lower Z c b _ size r (omega (arith, p));
    }
