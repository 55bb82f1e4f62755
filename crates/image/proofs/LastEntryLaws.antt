-- An image whose last used slot is faulty has two histories: an append that the power cut short, and a stored entry that was damaged.
use Prim.Native.Nat.{ℕ, zero, suc, ◌+◌, ◌≤◌, ◌<◌}
use mathlib.Core.Path.{◌≡◌, refl, sym, ap, ◌∙◌}
use mathlib.Core.Bool.{false}
use native.Mathlib.Omega.{arith}
use native.Mathlib.Nat.{mul-le-mul_left}
use lib.ListN.{length}
use Rattle.slices.specs.Parts.{Bytes, part, spliced}
use Rattle.slices.proofs.PartLaws.{length_part}
use Rattle.slices.proofs.SpliceLaws.{length_spliced, spliced_twice, spliced_back}
use Rattle.slices.proofs.NestedLaws.{spliced_comm}
use Rattle.record.specs.declared.Shape.{Shape}
use Rattle.record.specs.Layout.{is_witness, record_bytes, blank_record, entry_bytes}
use Rattle.record.specs.Meaning.{good, blank, intact}
use Rattle.record.specs.Exactly.{GoodFor}
use Rattle.record.proofs.LayoutLaws.{length_blank, length_entry}
use Rattle.record.proofs.RecordLaws.{good_for, read_blank, epoch_low, epoch_high}
use Rattle.image.specs.Image.{Image, index, image_size, record_at, entry_at, first_in, decode_image}
use Rattle.image.specs.SetSlot.{set_record}
use Rattle.image.specs.View.{condition_at, epoch_at, log_length, card_refusal}
use Rattle.image.specs.declared.condition.Condition.TheVariants.{Faulty}
use Rattle.image.specs.Verdict.{verdict_at}
use Rattle.image.specs.Append.{last_epoch, append_refusal, stored, appended}
use Rattle.image.specs.LastEntry.{TwoHistories, Untold, MayBeTorn}
use Rattle.image.proofs.KindLaws.{kind_own, kind_readable}
use Rattle.image.proofs.ViewLaws.{Sound, length_le}
use Rattle.image.proofs.DecodeLaws.{record_fits, entry_fits, record_there, entry_there, record_spliced, record_keeps_first}
use Rattle.image.proofs.VerdictLaws.{faulty_slot, is_doubtful, is_stale, is_noise}
use Rattle.image.proofs.StoreLaws.{blanked_length, blanked_sound, record_epoch_other}
use Rattle.image.proofs.AcceptLaws.{Accepts, readable_size, readable_image, accepts_intro, last_epoch_lem}
use Rattle.image.proofs.AppendLaws.{card_still, appended_stored, one_more}

-- ---- the bytes, from the image with that slot's record blank

record_first : (Z : Shape) (k : ℕ) → k < Z.m → record_at Z k + 34 ≤ entry_at Z k
unfolding record_at entry_at
record_first Z k h = omega (arith, mul-le-mul_left 34 h)

module _ (Z : Shape) (c : ℕ) (b : Bytes) (k : ℕ) (card : is_witness Z c ≡ false) (km : k < Z.m) (size : length b ≡ image_size Z c) (r : Bytes) (here : part b (record_at Z k) 34 ≡ r) where
  abbrev x : Bytes
  x = part b (entry_at Z k) 240

  abbrev a : Bytes
  a = spliced b (record_at Z k) blank_record

  lx : length x ≡ 240
  lx = length_part b (entry_at Z k) 240 (omega (arith, entry_fits Z c k card km, size))

  lr : length r ≡ 34
  lr = ap length (sym here) ∙ length_part b (record_at Z k) 34 (omega (arith, record_fits Z c k km, size))

  la : length a ≡ length b
  la = length_spliced b (record_at Z k) blank_record (omega (arith, length_blank, record_fits Z c k km, size))

  entry_stays : spliced a (entry_at Z k) x ≡ a
  entry_stays =
      spliced_comm b (record_at Z k) (entry_at Z k) blank_record x (omega (arith, length_blank, record_first Z k km)) (omega (arith, lx, entry_fits Z c k card km, size))
      ∙ ap (λ (z : Bytes). spliced z (record_at Z k) blank_record) (spliced_back b (entry_at Z k) 240 (omega (arith, entry_fits Z c k card km, size)))

  pub torn_append : spliced (spliced a (entry_at Z k) x) (record_at Z k) r ≡ b
  torn_append =
      ap (λ (z : Bytes). spliced z (record_at Z k) r) entry_stays
      ∙ spliced_twice b (record_at Z k) blank_record (omega (arith, length_blank, record_fits Z c k km, size)) r (omega (arith, lr, length_blank))
      ∙ ap (spliced b (record_at Z k)) (sym here)
      ∙ spliced_back b (record_at Z k) 34 (omega (arith, record_fits Z c k km, size))

  pub damaged_entry : (v : Bytes) → length v ≡ 240 → spliced (spliced (spliced a (entry_at Z k) v) (record_at Z k) r) (entry_at Z k) x ≡ b
  damaged_entry v lv =
      let w = length_spliced a (entry_at Z k) v (omega (arith, lv, la, entry_fits Z c k card km, size)) in
      spliced_comm (spliced a (entry_at Z k) v) (record_at Z k) (entry_at Z k) r x (omega (arith, lr, record_first Z k km)) (omega (arith, w, lx, la, entry_fits Z c k card km, size))
      ∙ ap (λ (z : Bytes). spliced z (record_at Z k) r) (spliced_twice a (entry_at Z k) v (omega (arith, lv, la, entry_fits Z c k card km, size)) x (omega (arith, lx, lv)))
      ∙ torn_append

-- ---- the append that both histories share

module _ (Z : Shape) (c : ℕ) (b : Bytes) (k : ℕ) (r : card_refusal Z c b ≡ 0) (last : log_length Z.m (decode_image Z c b) ≡ suc k)
    (faulty : condition_at (decode_image Z c b) k ≡ Faulty) (p : Bytes) (short : length p ≤ 200) where
  abbrev i : Image
  i = decode_image Z c b

  abbrev e : ℕ
  e = epoch_at i k

  abbrev before : Bytes
  before = spliced b (record_at Z k) blank_record

  abbrev j : ℕ
  j = index (first_in Z c before) k

  km : k < Z.m
  km = omega (arith, length_le Z.m i, last)

  card : is_witness Z c ≡ false
  card = kind_own _ Z c b r

  size : length b ≡ image_size Z c
  size = readable_size Z c b (kind_readable _ Z c b r)

  sound : Sound Z.m i
  sound = readable_image Z c b (kind_readable _ Z c b r)

  slot : (i.records k ≡ good e) × ((q : Bytes) → ¬ (i.entries k ≡ intact e q))
  slot = faulty_slot Z.m i k faulty

  begins : first_in Z c before ≡ first_in Z c b
  begins = record_keeps_first Z c b size k km blank_record length_blank

  written : GoodFor j e (part b (record_at Z k) 34)
  written = rw begins (good_for (index (first_in Z c b) k) (part b (record_at Z k) 34) e (sym (record_there Z c b k km) ∙ slot.0))

  blanked : decode_image Z c before ≡ set_record i k blank
  blanked = record_spliced Z c b size k km blank_record length_blank ∙ ap (set_record i k) (read_blank (index (first_in Z c b) k))

  unused : log_length Z.m (decode_image Z c before) ≡ k
  unused = rw blanked (blanked_length Z.m i k sound last)

  rising : (j : ℕ) → j ≡ k → last_epoch Z.m (decode_image Z c before) ≤ e
  rising zero q = unfold last_epoch in rw (unused, ← q) (omega arith)
  rising (suc j) q =
      rw (last_epoch_lem Z.m (decode_image Z c before) j (q ∙ sym unused), blanked, record_epoch_other Z.m i k blank j (omega arith))
      (rw q at (sound.rise j (omega arith)))

  accepts : Accepts Z c before e (length p)
  accepts = record {
    readable = card_still Z c b before (length_spliced b (record_at Z k) blank_record (omega (arith, length_blank, record_fits Z c k km, size))) r (rw blanked (blanked_sound Z.m i k sound last));
    positive = epoch_low e written.epoch;
    rising = rising k refl;
    short = short;
    room = rw unused km;
  }

  accepted : append_refusal Z c before e (length p) ≡ 0
  accepted = accepts_intro Z c before e (length p) accepts

  pub two_histories : TwoHistories Z c before b k e p (part b (entry_at Z k) 240)
  unfolding stored
  two_histories = record {
    accepted = accepted;
    slot = unused;
    stored = rw unused at (one_more Z c before e p (appended Z c before e p) (epoch_high e written.epoch) accepts (appended_stored Z c before e p accepted)).verdict_here;
    size = length_part b (entry_at Z k) 240 (omega (arith, entry_fits Z c k card km, size));
    faulty = λ q y. slot.1 q (entry_there Z c b k card km ∙ (rw begins at y));
    crash = torn_append Z c b k card km size (record_bytes e j) written.bytes;
    damage =
        ap (λ (z : Bytes). spliced z (entry_at Z k) (part b (entry_at Z k) 240)) (appended_stored Z c before e p accepted ∙ rw unused refl)
        ∙ damaged_entry Z c b k card km size (record_bytes e j) written.bytes (entry_bytes e j p) (length_entry e j p short);
  }

-- ---- the last used slot, by its verdict

module _ (Z : Shape) (c : ℕ) (b : Bytes) (k : ℕ) (r : card_refusal Z c b ≡ 0) where
  pub untold : verdict_at Z.m (decode_image Z c b) k ≡ 4 → Untold Z c b k
  untold v = let w = is_doubtful Z.m (decode_image Z c b) k v in two_histories Z c b k r w.1 w.0

  pub stale_untold : verdict_at Z.m (decode_image Z c b) k ≡ 6 → log_length Z.m (decode_image Z c b) ≡ suc k → Untold Z c b k
  stale_untold v last = two_histories Z c b k r last (is_stale Z.m (decode_image Z c b) k v).0

  -- nothing intact is what a torn store may leave
  pub torn : verdict_at Z.m (decode_image Z c b) k ≡ 4 → (p : Bytes) → MayBeTorn (index (first_in Z c b) k) (epoch_at (decode_image Z c b) k) p (part b (entry_at Z k) 240)
  torn v p f q x =
      let w = is_doubtful Z.m (decode_image Z c b) k v in
      absurd (is_noise Z.m (decode_image Z c b) k 4 (omega arith) (omega arith) v f q (entry_there Z c b k (kind_own _ Z c b r) (omega (arith, length_le Z.m (decode_image Z c b), w.1)) ∙ x))

  -- an intact entry of another epoch is neither torn nor the one being written
  pub stale_not_torn : verdict_at Z.m (decode_image Z c b) k ≡ 6 → log_length Z.m (decode_image Z c b) ≡ suc k → (p : Bytes)
      → ¬ (MayBeTorn (index (first_in Z c b) k) (epoch_at (decode_image Z c b) k) p (part b (entry_at Z k) 240))
  stale_not_torn v last p t =
      let i = decode_image Z c b in
      let (a, (f, q, x)) = is_stale Z.m i k v in
      let km : k < Z.m = omega (arith, length_le Z.m i, last) in
      (faulty_slot Z.m i k a).1 q (x ∙ ap (λ (e : ℕ). intact e q) (t f q (sym (entry_there Z c b k (kind_own _ Z c b r) km) ∙ x)).0)
