-- Laws of entries: what the reader says, in document 01's words, and that reader and writer undo each other.
use Prim.Native.Nat.{ℕ, ◌+◌, ◌-◌, ◌^◌, ◌<◌, ◌≤◌}
use mathlib.Core.Path.{◌≡◌, refl, sym, ◌∙◌, ap}
use mathlib.Core.Bool.{Bool, true, false, cond, ◌&&◌}
use mathlib.Core.List.{[], ◌∷◌, ◌++◌, append_assoc}
use native.Mathlib.Omega.{arith}
use lib.Dec.{leb}
use lib.ListN.{length, replicate, take, drop, get_or, length-append}
use lib.Seq.{take_at, get_or-take, get_or-drop}
use borrow.Author.Tests.{leb-true, le-leb}
use Rattle.slices.specs.Parts.{Bytes, part}
use Rattle.slices.specs.Same.{same}
use Rattle.slices.proofs.SameLaws.{and_left, and_right, clash, not_so, same_eq, same_true}
use Rattle.slices.proofs.PartLaws.{part_middle}
use Rattle.checksum.specs.Checksum.{checksum_of}
use Rattle.checksum.proofs.ChangedLaws.{checksum_lt}
use Rattle.column.specs.Column.{column, value_of, value_from, digit_step}
use Rattle.column.proofs.ColumnLaws.{length_column}
use Rattle.record.specs.Layout.{sealed, padded, entry_bytes, fresh_entry}
use Rattle.record.specs.Meaning.{Entry, intact, broken, is_epoch, is_intact, entry_epoch, entry_payload, read_entry, write_entry}
use Rattle.record.specs.Exactly.{IntactFor, EntryIs}
use Rattle.record.proofs.LayoutLaws.{column_at, length_entry}
use Rattle.record.proofs.RecordLaws.{epoch_low, epoch_fits}

-- ---- where epoch, length, payload and checksum stand

-- what stands before the payload, and what its checksum covers
abbrev front : ℕ → ℕ → ℕ → Bytes
front e k l = column 11 e ++ (column 11 k ++ column 4 l)

length_front : (e k l : ℕ) → length (front e k l) ≡ 26
length_front e k l = simp (length-append, length_column)

abbrev covered : ℕ → ℕ → Bytes → Bytes
covered e k p = front e k (length p) ++ p

entry_sealed : (e k : ℕ) (p : Bytes)
    → entry_bytes e k p ≡ covered e k p ++ (column 11 (checksum_of (covered e k p)) ++ ((10 ∷ []) ++ replicate (240 - length (sealed (covered e k p))) 32))
unfolding entry_bytes padded sealed
entry_sealed e k p = simp append_assoc

module _ (e k : ℕ) (p : Bytes) where
  pub entry_epoch_lem : e < 10 ^ 11 → entry_epoch (entry_bytes e k p) ≡ e
  unfolding entry_epoch
  entry_epoch_lem h = rw (entry_sealed, append_assoc, append_assoc) (column_at [] _ 11 e 0 refl h)

  pub entry_index : k < 10 ^ 11 → value_of (part (entry_bytes e k p) 11 11) ≡ k
  entry_index h = rw (entry_sealed, append_assoc, append_assoc, append_assoc (column 11 k)) (column_at (column 11 e) _ 11 k 11 (length_column 11 e) h)

  pub entry_length : length p ≤ 200 → value_of (part (entry_bytes e k p) 22 4) ≡ length p
  entry_length h =
      rw (entry_sealed, append_assoc, ← append_assoc (column 11 e) (column 11 k) (column 4 (length p)), append_assoc (column 11 e ++ column 11 k))
      (column_at (column 11 e ++ column 11 k) _ 4 (length p) 22 (simp (length-append, length_column)) (omega arith))

  -- the bytes from 26 on are the payload's
  pub entry_part : part (entry_bytes e k p) 26 (length p) ≡ p
  entry_part = rw (entry_sealed, append_assoc) (part_middle (front e k (length p)) p _ 26 (length p) (length_front e k (length p)) refl)

  pub entry_payload_lem : length p ≤ 200 → entry_payload (entry_bytes e k p) ≡ p
  unfolding entry_payload
  entry_payload_lem h = rw (entry_length h) entry_part

  length_covered : length (covered e k p) ≡ 26 + length p
  length_covered = rw (length-append, length_front)

  -- the column behind the payload holds the checksum of all that stands before it
  pub entry_checksum : value_of (part (entry_bytes e k p) (26 + length p) 11) ≡ checksum_of (take (26 + length p) (entry_bytes e k p))
  entry_checksum =
      rw (entry_sealed, take_at (covered e k p) _ (26 + length p) length_covered)
      (column_at (covered e k p) _ 11 (checksum_of (covered e k p)) (26 + length p) length_covered (omega (arith, checksum_lt (covered e k p))))

-- ---- intact, exactly

test_intact : (k e : ℕ) (p b : Bytes) → is_intact k e p b ≡ true → IntactFor k e p b
unfolding is_intact
test_intact k e p b h =
    let t = leb (length p) 200 in
    let s = same b (entry_bytes e k p) in
    let r = and_right (is_epoch e) (t && s) h in
    record {
      epoch = and_left (is_epoch e) (t && s) h;
      short = leb-true (length p) 200 (and_left t s r);
      bytes = same_true b (entry_bytes e k p) (and_right t s r);
    }

module _ (k e : ℕ) (p b : Bytes) (i : IntactFor k e p b) where
  pub intact_epoch : entry_epoch b ≡ e
  intact_epoch = rw i.bytes (entry_epoch_lem e k p (epoch_fits e i.epoch))

  pub intact_payload : entry_payload b ≡ p
  intact_payload = rw i.bytes (entry_payload_lem e k p i.short)

  pub intact_part : part b 26 (length p) ≡ p
  intact_part = rw i.bytes (entry_part e k p)

  pub intact_byte : (j : ℕ) → j < length p → get_or b (26 + j) 0 ≡ get_or p j 0
  unfolding part
  intact_byte j h = sym (get_or-take (length p) (drop 26 b) j 0 h ∙ get_or-drop 26 b j 0) ∙ ap (λ (z : Bytes). get_or z j 0) intact_part

  pub intact_length : length b ≡ 240
  intact_length = rw i.bytes (length_entry e k p i.short)

  intact_test : is_intact k (entry_epoch b) (entry_payload b) b ≡ true
  unfolding is_intact
  intact_test = rw (intact_epoch, intact_payload, i.epoch, le-leb (length p) 200 i.short) (same_eq b (entry_bytes e k p) i.bytes)

-- the same bytes are intact for one index alone
pub one_index : (j k e f : ℕ) (p q b : Bytes) → j < 10 ^ 11 → k < 10 ^ 11 → IntactFor j e p b → IntactFor k f q b → j ≡ k
one_index j k e f p q b h l x y =
    sym (entry_index e j p h) ∙ ap (λ (z : Bytes). value_of (part z 11 11)) (sym x.bytes ∙ y.bytes) ∙ entry_index f k q l

-- the epoch of a fresh entry would be 0
pub fresh_not_intact : (k e : ℕ) (p : Bytes) → ¬ (IntactFor k e p fresh_entry)
unfolding entry_epoch part value_of value_from digit_step fresh_entry
fresh_not_intact k e p i =
    let z : entry_epoch fresh_entry ≡ 0 = refl in
    omega (arith, intact_epoch k e p fresh_entry i, epoch_low e i.epoch)

-- ---- the reader, both ways

pub entry_is : (k : ℕ) (b : Bytes) → EntryIs k b (read_entry k b)
unfolding read_entry
entry_is k b = go (is_intact k (entry_epoch b) (entry_payload b) b) refl
  where
    go : (t : Bool) → is_intact k (entry_epoch b) (entry_payload b) b ≡ t → EntryIs k b (cond t (intact (entry_epoch b) (entry_payload b)) (broken b))
    go true h = test_intact k (entry_epoch b) (entry_payload b) b h
    go false h = (refl, λ e p i. clash (intact_test k e p b i) h)

pub entry_read : (k : ℕ) (b : Bytes) (r : Entry) → EntryIs k b r → read_entry k b ≡ r
unfolding read_entry
entry_read k b (intact e p) i = rw (intact_test k e p b i, intact_epoch k e p b i, intact_payload k e p b i)
entry_read k b (broken z) h =
    rw (not_so (is_intact k (entry_epoch b) (entry_payload b) b) (λ t. h.1 _ _ (test_intact k (entry_epoch b) (entry_payload b) b t))) (ap broken (sym h.0))

module _ (k : ℕ) (b : Bytes) where
  pub intact_for : (e : ℕ) (p : Bytes) → read_entry k b ≡ intact e p → IntactFor k e p b
  intact_for e p h = rw h at (entry_is k b)

  pub intact_read : (e : ℕ) (p : Bytes) → IntactFor k e p b → read_entry k b ≡ intact e p
  intact_read e p i = entry_read k b (intact e p) i

  pub broken_read : ((e : ℕ) (p : Bytes) → ¬ (IntactFor k e p b)) → read_entry k b ≡ broken b
  broken_read h = entry_read k b (broken b) (refl, h)

pub fresh_read : (k : ℕ) → read_entry k fresh_entry ≡ broken fresh_entry
fresh_read k = broken_read k fresh_entry (fresh_not_intact k)

-- ---- reader and writer undo each other

entry_written : (k : ℕ) (b : Bytes) (r : Entry) → EntryIs k b r → write_entry k r ≡ b
unfolding write_entry
entry_written k b (intact e p) i = sym i.bytes
entry_written k b (broken z) h = h.0

pub write_read_entry : (k : ℕ) (b : Bytes) → write_entry k (read_entry k b) ≡ b
write_read_entry k b = entry_written k b (read_entry k b) (entry_is k b)

pub read_intact : (k e : ℕ) (p : Bytes) → is_epoch e ≡ true → length p ≤ 200 → read_entry k (entry_bytes e k p) ≡ intact e p
read_intact k e p h l = intact_read k (entry_bytes e k p) e p (record { epoch = h; short = l; bytes = refl })
