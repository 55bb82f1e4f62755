-- A fresh image, taken apart: a proper header, blank records and fresh entries, and so not refused and empty.
use Prim.Native.Nat.{ℕ, zero, suc, ◌+◌, ◌*◌, ◌≤◌, ◌<◌}
use mathlib.Core.Path.{◌≡◌, refl, sym, ap, ◌∙◌}
use mathlib.Core.Bool.{Bool, true, false, cond}
use mathlib.Core.List.{[], ◌++◌}
use native.Mathlib.Omega.{arith}
use native.Mathlib.Nat.{mul-le-mul_left}
use native.Mathlib.Decide.{ℕ_discrete}
use lib.Dec.{ltb}
use lib.ListN.{length, length-append}
use borrow.Author.Tests.{ltb-true}
use Rattle.search.specs.Search.{joined}
use Rattle.search.proofs.SearchLaws.{lowest_is}
use Rattle.search.proofs.ListedLaws.{length_joined}
use Rattle.slices.specs.Parts.{Bytes, part}
use Rattle.slices.proofs.SameLaws.{and_off, same_refl}
use Rattle.slices.proofs.PartLaws.{part_front, part_back, part_first, part_last}
use Rattle.record.specs.declared.Shape.{Shape}
use Rattle.record.specs.Layout.{is_witness, header_size, header_bytes, blank_record, fresh_entry}
use Rattle.record.specs.Meaning.{proper, first_index, is_first, blank, read_header, read_record, read_entry}
use Rattle.record.proofs.LayoutLaws.{length_header, length_blank, length_fresh}
use Rattle.record.proofs.HeaderLaws.{read_proper}
use Rattle.record.proofs.RecordLaws.{read_blank}
use Rattle.record.proofs.EntryLaws.{fresh_read}
use Rattle.image.specs.Image.{Image, index, entries_size, image_size, record_at, entry_at, decode_under, first_in, decode_image, fresh_image}
use Rattle.image.specs.View.{condition, is_blank, is_proper, is_lost, condition_at, log_length, call_refusal, read_refusal}
use Rattle.image.specs.declared.condition.Condition.TheVariants.{Unused}
use Rattle.image.specs.Verdict.{is_fresh, verdict_at}
use Rattle.image.specs.Append.{format_refusal}
use Rattle.image.proofs.RefusalLaws.{else_zero}
use Rattle.image.proofs.CallLaws.{formatted_first, formatted_call}
use Rattle.image.proofs.ViewLaws.{Sound, sound_intro}
use Rattle.image.proofs.VerdictLaws.{verdict_unused}
use Rattle.image.proofs.DecodeLaws.{first_is, entry_there}

-- one of several parts of one size
pub joined_part : (b s : ℕ) (f : ℕ → Bytes) (k : ℕ) → ((j : ℕ) → j < b → length (f j) ≡ s) → k < b → part (joined b f) (s * k) s ≡ f k
unfolding joined
joined_part zero s f k h l = absurd (omega arith)
joined_part (suc b) s f k h l = go (ℕ_discrete k b) (joined_part b s f k (λ j x. h j (omega arith)))
  where
    size : length (joined b f) ≡ s * b
    size = length_joined b s f (λ j x. h j (omega arith))

    go : Dec (k ≡ b) → (k < b → part (joined b f) (s * k) s ≡ f k) → part (joined b f ++ f b) (s * k) s ≡ f k
    go (yes q) ih = rw q (part_last (joined b f) (f b) (s * b) s size (h b (omega arith)))
    go (no q) ih =
        let d : k + 1 ≤ b = omega arith in
        part_front (joined b f) (f b) (s * k) s (omega (arith, size, mul-le-mul_left s d)) ∙ ih (omega arith)

abbrev records : ℕ → Bytes
records m = joined m (λ k. blank_record)

abbrev entries : Shape → ℕ → Bytes
entries Z c = cond (is_witness Z c) [] (joined Z.m (λ k. fresh_entry))

pub length_records : (m : ℕ) → length (joined m (λ k. blank_record)) ≡ 34 * m
length_records m = length_joined m 34 (λ k. blank_record) (λ k h. length_blank)

pub length_entries : (m : ℕ) → length (joined m (λ k. fresh_entry)) ≡ 240 * m
length_entries m = length_joined m 240 (λ k. fresh_entry) (λ k h. length_fresh)

pub length_fresh_entries : (Z : Shape) (c : ℕ) → length (cond (is_witness Z c) [] (joined Z.m (λ k. fresh_entry))) ≡ entries_size Z c
unfolding entries_size
length_fresh_entries Z c = go (is_witness Z c)
  where
    go : (t : Bool) → length (cond t [] (joined Z.m (λ k. fresh_entry))) ≡ cond t 0 (240 * Z.m)
    go true = refl
    go false = length_entries Z.m

module _ (Z : Shape) (c first : ℕ) where
  length_front : length (header_bytes Z c first ++ records Z.m) ≡ header_size Z + 34 * Z.m
  length_front = length-append (header_bytes Z c first) (records Z.m) ∙ omega (arith, length_header Z c first, length_records Z.m)

  pub length_fresh_image : length (fresh_image Z c first) ≡ image_size Z c
  unfolding fresh_image image_size
  length_fresh_image = length-append (header_bytes Z c first ++ records Z.m) (entries Z c) ∙ omega (arith, length_front, length_fresh_entries Z c)

  -- ---- its parts
  fresh_header : part (fresh_image Z c first) 0 (header_size Z) ≡ header_bytes Z c first
  unfolding fresh_image
  fresh_header =
      part_front (header_bytes Z c first ++ records Z.m) (entries Z c) 0 (header_size Z) (omega (arith, length_front))
      ∙ part_first (header_bytes Z c first) (records Z.m) (header_size Z) (length_header Z c first)

  fresh_record : (k : ℕ) → k < Z.m → part (fresh_image Z c first) (record_at Z k) 34 ≡ blank_record
  unfolding fresh_image record_at
  fresh_record k h =
      part_front (header_bytes Z c first ++ records Z.m) (entries Z c) (header_size Z + 34 * k) 34 (omega (arith, length_front, mul-le-mul_left 34 h))
      ∙ part_back (header_bytes Z c first) (records Z.m) (34 * k) 34 (header_size Z) (length_header Z c first)
      ∙ joined_part Z.m 34 (λ j. blank_record) k (λ j x. length_blank) h

  fresh_entry_lem : (k : ℕ) → is_witness Z c ≡ false → k < Z.m → part (fresh_image Z c first) (entry_at Z k) 240 ≡ fresh_entry
  unfolding fresh_image entry_at
  fresh_entry_lem k card h =
      part_back (header_bytes Z c first ++ records Z.m) (entries Z c) (240 * k) 240 (header_size Z + 34 * Z.m) length_front
      ∙ rw card
      (joined_part Z.m 240 (λ j. fresh_entry) k (λ j x. length_fresh) h)

  -- ---- what they mean
  abbrev fresh : Image
  fresh = decode_image Z c (fresh_image Z c first)

  pub fresh_headed : is_first Z first ≡ true → (decode_image Z c (fresh_image Z c first)).header ≡ proper first
  unfolding decode_image decode_under
  fresh_headed h = ap (read_header Z c) fresh_header ∙ read_proper Z c first h

  pub fresh_first : is_first Z first ≡ true → first_in Z c (fresh_image Z c first) ≡ first
  unfolding first_index
  fresh_first h = sym (first_is Z c (fresh_image Z c first)) ∙ ap first_index (fresh_headed h)

  pub fresh_blank : (k : ℕ) → (decode_image Z c (fresh_image Z c first)).records k ≡ blank
  unfolding decode_image decode_under
  fresh_blank k = go (ltb k Z.m) refl
    where
      go : (t : Bool) → ltb k Z.m ≡ t → cond t (read_record (index (first_in Z c (fresh_image Z c first)) k) (part (fresh_image Z c first) (record_at Z k) 34)) blank ≡ blank
      go true e = ap (read_record (index (first_in Z c (fresh_image Z c first)) k)) (fresh_record k (ltb-true k Z.m e)) ∙ read_blank (index (first_in Z c (fresh_image Z c first)) k)
      go false e = refl

  pub fresh_fresh : (k : ℕ) → is_witness Z c ≡ false → k < Z.m → is_fresh ((decode_image Z c (fresh_image Z c first)).entries k) ≡ true
  unfolding is_fresh
  fresh_fresh k card h =
      let e = entry_there Z c (fresh_image Z c first) k card h ∙ ap (read_entry (index (first_in Z c (fresh_image Z c first)) k)) (fresh_entry_lem k card h) ∙ fresh_read (index (first_in Z c (fresh_image Z c first)) k) in
      rw e (same_refl fresh_entry)

  -- ---- what is seen of it
  pub fresh_length : log_length Z.m fresh ≡ 0
  unfolding log_length is_blank
  fresh_length = lowest_is (λ k. is_blank (fresh.records k)) Z.m 0 (omega arith) (λ j h. absurd (omega arith)) (λ h. rw (fresh_blank 0))

  pub fresh_condition : (k : ℕ) → condition_at fresh k ≡ Unused
  unfolding condition_at condition
  fresh_condition k = rw (fresh_blank k)

  pub fresh_verdict : (k : ℕ) → is_witness Z c ≡ false → k < Z.m → verdict_at Z.m fresh k ≡ 0
  fresh_verdict k card h = verdict_unused Z.m fresh k (fresh_condition k) ∙ rw (fresh_fresh k card h, and_off)

  pub fresh_sound : is_first Z first ≡ true → Sound Z.m fresh
  unfolding is_proper is_lost
  fresh_sound h = record {
    headed = rw (fresh_headed h);
    tail = λ k a b. fresh_blank k;
    kept = λ k h. rw (fresh_condition k);
    rise = λ k h. absurd (omega (arith, fresh_length));
  }

  pub fresh_readable : format_refusal Z c first (image_size Z c) ≡ 0 → read_refusal Z c (fresh_image Z c first) ≡ 0
  unfolding read_refusal
  fresh_readable h =
      else_zero (ap (call_refusal Z c) length_fresh_image ∙ formatted_call Z c first (image_size Z c) h)
      (sound_intro Z.m fresh (fresh_sound (formatted_first Z c first (image_size Z c) h)))
