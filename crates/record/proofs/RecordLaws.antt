-- Laws of records: what the reader says, in document 01's words, and that reader and writer undo each other.
use Prim.Native.Nat.{ℕ, ◌^◌, ◌<◌, ◌≤◌}
use mathlib.Core.Path.{◌≡◌, refl, sym, ap}
use mathlib.Core.Bool.{Bool, true, false, cond}
use mathlib.Core.List.{[], append_assoc}
use native.Mathlib.Omega.{arith}
use lib.Dec.{leb}
use borrow.Author.Tests.{leb-true, le-leb}
use Rattle.slices.specs.Parts.{Bytes, part}
use Rattle.slices.specs.Same.{same}
use Rattle.slices.proofs.SameLaws.{and_left, and_right, and_true, clash, not_so, same_eq, same_true, same_false, same_differs}
use Rattle.column.specs.Column.{value_of, value_from, digit_step}
use Rattle.record.specs.Layout.{sealed, record_bytes, blank_record}
use Rattle.record.specs.Meaning.{Record, good, blank, bad, is_epoch, is_good, record_epoch, read_record, write_record}
use Rattle.record.specs.Exactly.{GoodFor, RecordIs}
use Rattle.record.proofs.LayoutLaws.{column_at}

-- ---- epochs

module _ (e : ℕ) where
  pub epoch_low : is_epoch e ≡ true → 1 ≤ e
  unfolding is_epoch
  epoch_low h = leb-true 1 e (and_left (leb 1 e) (leb e 4294967295) h)

  pub epoch_high : is_epoch e ≡ true → e ≤ 4294967295
  unfolding is_epoch
  epoch_high h = leb-true e 4294967295 (and_right (leb 1 e) (leb e 4294967295) h)

  pub is_epoch_lem : 1 ≤ e → e ≤ 4294967295 → is_epoch e ≡ true
  unfolding is_epoch
  is_epoch_lem lo hi = and_true (leb 1 e) (leb e 4294967295) (le-leb 1 e lo) (le-leb e 4294967295 hi)

  -- an epoch fits its column
  pub epoch_fits : is_epoch e ≡ true → e < 10 ^ 11
  epoch_fits h = omega (arith, epoch_high h)

-- ---- good, exactly

pub record_epoch_lem : (e k : ℕ) → e < 10 ^ 11 → record_epoch (record_bytes e k) ≡ e
unfolding record_epoch record_bytes sealed
record_epoch_lem e k h = rw append_assoc (column_at [] _ 11 e 0 refl h)

test_good : (k e : ℕ) (b : Bytes) → is_good k e b ≡ true → GoodFor k e b
unfolding is_good
test_good k e b h = record {
  epoch = and_left (is_epoch e) (same b (record_bytes e k)) h;
  bytes = same_true b (record_bytes e k) (and_right (is_epoch e) (same b (record_bytes e k)) h);
}

good_epoch : (k e : ℕ) (b : Bytes) → GoodFor k e b → record_epoch b ≡ e
good_epoch k e b g = rw g.bytes (record_epoch_lem e k (epoch_fits e g.epoch))

good_test : (k e : ℕ) (b : Bytes) → GoodFor k e b → is_good k (record_epoch b) b ≡ true
unfolding is_good
good_test k e b g = rw (good_epoch k e b g) (and_true (is_epoch e) (same b (record_bytes e k)) g.epoch (same_eq b _ g.bytes))

-- the epoch of a blank record would be 0
pub blank_not_good : (k e : ℕ) (b : Bytes) → b ≡ blank_record → ¬ (GoodFor k e b)
unfolding record_epoch part value_of value_from digit_step blank_record
blank_not_good k e b h g =
    let z : record_epoch b ≡ 0 = rw h refl in
    omega (arith, good_epoch k e b g, epoch_low e g.epoch)

-- ---- the reader, both ways

pub record_is : (k : ℕ) (b : Bytes) → RecordIs k b (read_record k b)
unfolding read_record
record_is k b = go (is_good k (record_epoch b) b) (same b blank_record) refl refl
  where
    go : (s t : Bool) → is_good k (record_epoch b) b ≡ s → same b blank_record ≡ t → RecordIs k b (cond s (good (record_epoch b)) (cond t blank (bad b)))
    go true t h l = test_good k (record_epoch b) b h
    go false true h l = same_true b blank_record l
    go false false h l = (refl, record { not_good = λ e g. clash (good_test k e b g) h; not_blank = same_false b blank_record l })

pub record_read : (k : ℕ) (b : Bytes) (r : Record) → RecordIs k b r → read_record k b ≡ r
unfolding read_record
record_read k b (good e) g = rw (good_test k e b g) (ap good (good_epoch k e b g))
record_read k b blank h =
    rw (not_so (is_good k (record_epoch b) b) (λ t. blank_not_good k _ b h (test_good k (record_epoch b) b t)), same_eq b blank_record h)
record_read k b (bad z) h =
    rw (not_so (is_good k (record_epoch b) b) (λ t. h.1.not_good _ (test_good k (record_epoch b) b t)), same_differs b blank_record h.1.not_blank) (ap bad (sym h.0))

module _ (k : ℕ) (b : Bytes) where
  pub good_for : (e : ℕ) → read_record k b ≡ good e → GoodFor k e b
  good_for e h = rw h at (record_is k b)

  pub good_read : (e : ℕ) → GoodFor k e b → read_record k b ≡ good e
  good_read e g = record_read k b (good e) g

  pub blank_read : b ≡ blank_record → read_record k b ≡ blank
  blank_read h = record_read k b blank h

-- ---- reader and writer undo each other

record_written : (k : ℕ) (b : Bytes) (r : Record) → RecordIs k b r → write_record k r ≡ b
unfolding write_record
record_written k b (good e) g = sym g.bytes
record_written k b blank h = sym h
record_written k b (bad z) h = h.0

pub write_read_record : (k : ℕ) (b : Bytes) → write_record k (read_record k b) ≡ b
write_read_record k b = record_written k b (read_record k b) (record_is k b)

pub read_good : (k e : ℕ) → is_epoch e ≡ true → read_record k (record_bytes e k) ≡ good e
read_good k e h = good_read k (record_bytes e k) e (record { epoch = h; bytes = refl })

pub read_blank : (k : ℕ) → read_record k blank_record ≡ blank
read_blank k = blank_read k blank_record refl
