-- An append in bytes: what it leaves.
use Prim.Native.Nat.{ℕ, zero, suc, ◌-◌, ◌≤◌, ◌<◌}
use mathlib.Core.Path.{◌≡◌, refl, sym, ap, ap₂, ◌∙◌}
use mathlib.Core.Bool.{Bool, true, false, ◌&&◌, true≢false}
use mathlib.Core.List.{[]}
use native.Mathlib.Omega.{arith}
use lib.Dec.{leb}
use lib.ListN.{length}
use borrow.Author.Tests.{leb-true, le-leb, lt-leb}
use Rattle.slices.specs.Parts.{Bytes, part, spliced}
use Rattle.slices.proofs.SameLaws.{and_left, and_right, and_off}
use Rattle.slices.proofs.SpliceLaws.{length_spliced}
use Rattle.record.specs.declared.Shape.{Shape}
use Rattle.record.specs.Layout.{is_witness, record_bytes, entry_bytes}
use Rattle.record.specs.Meaning.{first_index, Record, intact, is_epoch, read_entry, write_entry, entry_payload}
use Rattle.record.proofs.LayoutLaws.{length_record, length_entry}
use Rattle.record.proofs.RecordLaws.{read_good, is_epoch_lem}
use Rattle.record.proofs.EntryLaws.{read_intact, write_read_entry, intact_for, intact_payload}
use Rattle.image.specs.Image.{Image, index, image_size, record_at, entry_at, first_in, decode_image}
use Rattle.image.specs.SetSlot.{set_record, set_entry}
use Rattle.image.specs.View.{condition_at, log_length, call_refusal, read_refusal, card_refusal}
use Rattle.image.specs.declared.condition.Condition.TheVariants.{Whole}
use Rattle.image.specs.Read.{is_whole, has_payload, payload_of}
use Rattle.image.specs.Append.{append_refusal, stored, appended}
use Rattle.image.specs.AppendClaim.{OneMore}
use Rattle.image.proofs.RefusalLaws.{else_zero, else_zero_l}
use Rattle.image.proofs.KindLaws.{kind_own, kind_readable, kind_intro}
use Rattle.image.proofs.ViewLaws.{Sound, sound_intro}
use Rattle.image.proofs.DecodeLaws.{record_fits, entry_fits, first_is, entry_there, record_spliced, entry_spliced, entry_keeps_first}
use Rattle.image.proofs.AddedLaws.{added, added_header, added_condition, added_epoch, added_entry, added_entry_other, added_condition_other, added_epoch_other, added_length, added_sound, added_verdict, added_verdict_last, added_verdict_other, added_verdict_next, unused_verdict}
use Rattle.image.proofs.AcceptLaws.{Accepts, readable_size, readable_image, rising_last}

-- ---- what is stored, taken apart

module _ (Z : Shape) (c : ℕ) (b : Bytes) (size : length b ≡ image_size Z c) (k : ℕ) (card : is_witness Z c ≡ false) (km : k < Z.m) (e : ℕ) (ep : is_epoch e ≡ true) (p : Bytes) (lp : length p ≤ 200) {first : ℕ} (from : first ≡ first_in Z c b) where
  entered : length (spliced b (entry_at Z k) (entry_bytes e (index first k) p)) ≡ image_size Z c
  entered =
      let l = length_entry e (index first k) p lp in
      length_spliced b (entry_at Z k) (entry_bytes e (index first k) p) (omega (arith, l, entry_fits Z c k card km)) ∙ size

  pub length_stored : length (stored Z first b k e p) ≡ image_size Z c
  unfolding stored
  length_stored =
      length_spliced _ (record_at Z k) (record_bytes e (index first k)) (omega (arith, length_record e (index first k), record_fits Z c k km, entered)) ∙ entered

  pub stored_added : decode_image Z c (stored Z first b k e p) ≡ added (decode_image Z c b) k e p
  unfolding stored added
  stored_added =
      record_spliced Z c _ entered k km (record_bytes e (index first k)) (length_record e (index first k))
      ∙ ap₂ (λ (i : Image) (r : Record). set_record i k r)
      (entry_spliced Z c b size k card km (entry_bytes e (index first k) p) (length_entry e (index first k) p lp)
      ∙ ap (set_entry (decode_image Z c b) k) (rw (← from) (read_intact (index first k) e p ep lp)))
      (rw (entry_keeps_first Z c b size k card km (entry_bytes e (index first k) p) (length_entry e (index first k) p lp), ← from) (read_good (index first k) e ep))

-- ---- payloads

-- an entry that means the same under the same index is the same bytes
pub entry_bytes_lem : (Z : Shape) (c : ℕ) (b d : Bytes) (k : ℕ) → is_witness Z c ≡ false → k < Z.m → first_in Z c d ≡ first_in Z c b
    → (decode_image Z c d).entries k ≡ (decode_image Z c b).entries k → part d (entry_at Z k) 240 ≡ part b (entry_at Z k) 240
entry_bytes_lem Z c b d k card h f e =
    sym (write_read_entry (index (first_in Z c d) k) (part d (entry_at Z k) 240))
    ∙ ap (write_entry (index (first_in Z c d) k)) (sym (entry_there Z c d k card h) ∙ e ∙ entry_there Z c b k card h)
    ∙ rw f (write_read_entry (index (first_in Z c b) k) (part b (entry_at Z k) 240))

pub has_payload_lem : (m : ℕ) (i : Image) (k : ℕ) → k < m → has_payload m i (suc k) ≡ is_whole (condition_at i k)
unfolding has_payload
has_payload_lem m i k h = let z : suc k - 1 ≡ k = omega arith in rw (z, le-leb 1 (suc k) (omega arith), le-leb (suc k) m h)

pub no_slot : (m : ℕ) (i : Image) (k : ℕ) → m ≤ k → has_payload m i (suc k) ≡ false
unfolding has_payload
no_slot m i k h = rw (lt-leb (suc k) m (omega arith), and_off)

pub payload_there : (Z : Shape) (c : ℕ) (b : Bytes) (k : ℕ) → card_refusal Z c b ≡ 0 → has_payload Z.m (decode_image Z c b) (suc k) ≡ true
    → payload_of Z c b (suc k) ≡ entry_payload (part b (entry_at Z k) 240)
unfolding payload_of
payload_there Z c b k r h = let z : suc k - 1 ≡ k = omega arith in rw (r, h, z)

pub payload_none : (Z : Shape) (c : ℕ) (b : Bytes) (s : ℕ) → has_payload Z.m (decode_image Z c b) s ≡ false → payload_of Z c b s ≡ []
unfolding payload_of
payload_none Z c b s h = rw (h, and_off)

-- a slot number that has one
has_slot : (m : ℕ) (i : Image) (s : ℕ) → has_payload m i s ≡ true → (k : ℕ) × (s ≡ suc k) × (k < m)
unfolding has_payload
has_slot m i zero h = absurd (true≢false (sym h))
has_slot m i (suc k) h = (k, refl, leb-true (suc k) m (and_right (leb 1 (suc k)) (leb (suc k) m) (and_left (leb 1 (suc k) && leb (suc k) m) (is_whole (condition_at i (suc k - 1))) h)))

-- ---- one append

pub readable_still : (Z : Shape) (c : ℕ) (b d : Bytes) → length d ≡ length b → read_refusal Z c b ≡ 0 → Sound Z.m (decode_image Z c d) → read_refusal Z c d ≡ 0
unfolding read_refusal
readable_still Z c b d l r s = else_zero (ap (call_refusal Z c) l ∙ else_zero_l _ _ r) (sound_intro Z.m (decode_image Z c d) s)

pub card_still : (Z : Shape) (c : ℕ) (b d : Bytes) → length d ≡ length b → card_refusal Z c b ≡ 0 → Sound Z.m (decode_image Z c d) → card_refusal Z c d ≡ 0
card_still Z c b d l r s = kind_intro _ Z c d (kind_own _ Z c b r) (readable_still Z c b d l (kind_readable _ Z c b r) s)

-- b becomes d by an append that is accepted
module _ (Z : Shape) (c : ℕ) (b : Bytes) (e : ℕ) (p : Bytes) (d : Bytes) where
  abbrev before : Image
  before = decode_image Z c b

  abbrev len : ℕ
  len = log_length Z.m (decode_image Z c b)

  same_first : decode_image Z c d ≡ added before len e p → first_in Z c d ≡ first_in Z c b
  same_first is = sym (first_is Z c d) ∙ ap (λ (i : Image). first_index i.header) is ∙ ap first_index (added_header Z.m before len e p) ∙ first_is Z c b

  same_presence : decode_image Z c d ≡ added before len e p → (s : ℕ) → ¬ (s ≡ suc len) → has_payload Z.m (decode_image Z c d) s ≡ has_payload Z.m before s
  unfolding has_payload
  same_presence is zero q = refl
  same_presence is (suc k) q =
      let z : suc k - 1 ≡ k = omega arith in
      let w : ¬ (k ≡ len) = λ x. q (ap suc x) in
      rw (z, is, added_condition_other Z.m before len e p k w)

  same_payload : card_refusal Z c b ≡ 0 → card_refusal Z c d ≡ 0 → decode_image Z c d ≡ added before len e p
      → (s : ℕ) → ¬ (s ≡ suc len) → payload_of Z c d s ≡ payload_of Z c b s
  same_payload r r' is s q = go (has_payload Z.m before s) refl
    where
      at : has_payload Z.m before s ≡ true → (k : ℕ) → s ≡ suc k → k < Z.m → payload_of Z c d s ≡ payload_of Z c b s
      at h k x km =
          let w : ¬ (k ≡ len) = λ y. q (x ∙ ap suc y) in
          rw x
          (payload_there Z c d k r' (rw x at (same_presence is s q ∙ h))
          ∙ ap entry_payload (entry_bytes_lem Z c b d k (kind_own _ Z c b r) km (same_first is) (ap (λ (i : Image). i.entries k) is ∙ added_entry_other Z.m before len e p k w))
          ∙ sym (payload_there Z c b k r (rw x at h)))

      go : (t : Bool) → has_payload Z.m before s ≡ t → payload_of Z c d s ≡ payload_of Z c b s
      go true h = let w = has_slot Z.m before s h in at h w.0 w.1 w.2
      go false h = payload_none Z c d s (same_presence is s q ∙ h) ∙ sym (payload_none Z c b s h)

  module _ (high : e ≤ 4294967295) (ok : Accepts Z c b e (length p)) (by : d ≡ stored Z (first_in Z c b) b len e p) where
    card : is_witness Z c ≡ false
    card = kind_own _ Z c b ok.readable

    size : length b ≡ image_size Z c
    size = readable_size Z c b (kind_readable _ Z c b ok.readable)

    epoch : is_epoch e ≡ true
    epoch = is_epoch_lem e ok.positive high

    sound : Sound Z.m before
    sound = readable_image Z c b (kind_readable _ Z c b ok.readable)

    as_long : length d ≡ length b
    as_long = ap length by ∙ length_stored Z c b size len card ok.room e epoch p ok.short refl ∙ sym size

    becomes : decode_image Z c d ≡ added before len e p
    becomes = ap (decode_image Z c) by ∙ stored_added Z c b size len card ok.room e epoch p ok.short refl

    readable : card_refusal Z c d ≡ 0
    readable =
        card_still Z c b d as_long ok.readable
        (rw becomes (added_sound Z.m before len e p sound refl ok.room (rising_last Z c b sound e ok.rising)))

    whole : condition_at (decode_image Z c d) len ≡ Whole
    whole = rw becomes (added_condition Z.m before len e p)

    present : has_payload Z.m (decode_image Z c d) (suc len) ≡ true
    unfolding is_whole
    present = has_payload_lem Z.m (decode_image Z c d) len ok.room ∙ ap is_whole whole

    entry : read_entry (index (first_in Z c d) len) (part d (entry_at Z len) 240) ≡ intact e p
    entry = sym (entry_there Z c d len card ok.room) ∙ ap (λ (i : Image). i.entries len) becomes ∙ added_entry Z.m before len e p

    pub one_more : OneMore Z c b before len e p d (decode_image Z c d)
    one_more = record {
      size = as_long;
      readable = readable;
      begins = same_first becomes;
      room = ok.room;
      longer = rw becomes (added_length Z.m before len e p sound refl ok.room);
      whole = whole;
      epoch = rw becomes (added_epoch Z.m before len e p);
      present = present;
      payload =
          payload_there Z c d len readable present
          ∙ intact_payload (index (first_in Z c d) len) e p (part d (entry_at Z len) 240) (intact_for (index (first_in Z c d) len) (part d (entry_at Z len) 240) e p entry);
      conditions_stay = λ k q. rw becomes (added_condition_other Z.m before len e p k q);
      epochs_stay = λ k q. rw becomes (added_epoch_other Z.m before len e p sound refl ok.room k q);
      presence_stays = same_presence becomes;
      payloads_stay = same_payload ok.readable readable becomes;
      verdict_here = rw becomes (added_verdict Z.m before len e p sound refl ok.room);
      verdict_before = λ k q. rw becomes (added_verdict_last Z.m before len e p sound refl ok.room k q);
      verdict_behind = λ h. (
        unused_verdict Z.m before len e p sound refl ok.room h,
        rw becomes (added_verdict_next Z.m before len e p sound refl ok.room h),
      );
      verdicts_stay = λ k x y z. rw becomes (added_verdict_other Z.m before len e p sound refl ok.room k x y z);
    }

    -- the entries of the other slots stay
    pub appended_entry : (k : ℕ) → ¬ (k ≡ len) → (decode_image Z c d).entries k ≡ before.entries k
    appended_entry k q = ap (λ (i : Image). i.entries k) becomes ∙ added_entry_other Z.m before len e p k q

pub appended_stored : (Z : Shape) (c : ℕ) (b : Bytes) (e : ℕ) (p : Bytes) → append_refusal Z c b e (length p) ≡ 0
    → appended Z c b e p ≡ stored Z (first_in Z c b) b (log_length Z.m (decode_image Z c b)) e p
unfolding appended
appended_stored Z c b e p h = rw h
