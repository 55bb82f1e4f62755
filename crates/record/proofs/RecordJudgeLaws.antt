-- The tests of a record decide whether it is good, blank or bad.
use Prim.Native.Nat.{ℕ, ◌≤◌}
use mathlib.Core.Path.{◌≡◌, refl, sym, ◌∙◌, ap}
use mathlib.Core.Bool.{Bool, true, false, ◌&&◌}
use mathlib.Core.List.{◌++◌}
use native.Mathlib.Omega.{arith}
use lib.Dec.{eqb}
use lib.ListN.{length, take, get_or, replicate, length-append, length-take}
use borrow.Author.Tests.{eq-eqb, ne_eqb}
use Rattle.slices.specs.Parts.{Bytes, part}
use Rattle.slices.specs.Same.{same}
use Rattle.slices.proofs.SameLaws.{and_left, and_off, and_assoc, and_on}
use Rattle.slices.proofs.PartLaws.{part_take, part_drop}
use Rattle.column.specs.Column.{column, value_of}
use Rattle.column.proofs.ColumnLaws.{length_column}
use Rattle.record.specs.Layout.{record_bytes, blank_record}
use Rattle.record.specs.Meaning.{is_epoch, is_good, record_epoch, read_record}
use Rattle.record.specs.Judged.{record_answer}
use Rattle.record.specs.Seal.{seal_of, is_front}
use Rattle.record.specs.declared.RecordState.TheVariants.{Good, Blank, Bad}
use Rattle.record.proofs.RecordLaws.{epoch_high}
use Rattle.record.proofs.JudgeLaws.{same_front, same_column, same_last, sealed_is}

module _ (k e : ℕ) (s : Bytes) (h : length s ≡ 34) where
  record_tests : same s (record_bytes e k)
      ≡ (same (part s 0 11) (column 11 e) && same (part s 11 11) (column 11 k)) && same (part s 22 12) (seal_of (take 22 s))
  unfolding record_bytes
  record_tests =
      let x = column 11 e ++ column 11 k in
      ap (same s) (sealed_is x) ∙ same_front s x 22 seal_of (simp (length-append, length_column)) (omega arith)
      ∙ rw (← part_take s 22, ← part_drop s 22 12 h, same_column s (column 11 k) 0 11 11 e (omega arith))

  pub good_tests : is_good k e s ≡ is_front k e s && same (part s 22 12) (seal_of (take 22 s))
  unfolding is_good is_front
  good_tests = rw record_tests (simp and_assoc)

-- the newline, and then the spaces
module _ (s : Bytes) (h : length s ≡ 34) where
  blank_tests : same s blank_record ≡ same (take 33 s) (replicate 33 32) && eqb (get_or s 33 0) 10
  unfolding blank_record
  blank_tests = same_last s (replicate 33 32) 33 10 refl h

  pub blank_open : ¬ (get_or s 33 0 ≡ 10) → eqb (get_or s 33 0) 10 ≡ same s blank_record
  blank_open k = sym (rw (blank_tests, ne_eqb _ 10 k) (simp and_off))

  pub blank_spaces : (r : Bool) → get_or s 33 0 ≡ 10 → r ≡ same (take 33 s) (replicate (length (take 33 s)) 32) → r ≡ same s blank_record
  blank_spaces r k e =
      let w : length (take 33 s) ≡ 33 = simp length-take (omega arith) in
      e ∙ rw w (sym (rw (blank_tests, eq-eqb _ 10 k) (and_on _)))

module _ (k : ℕ) {e : ℕ} (s : Bytes) (is : e ≡ value_of (take 11 s)) where
  epoch_is : record_epoch s ≡ e
  unfolding record_epoch part
  epoch_is = sym is

  pub answer_good : is_good k e s ≡ true → Good e ≡ record_answer (read_record k s)
  unfolding read_record record_answer
  answer_good t = sym (rw (epoch_is, t))

  pub answer_blank : is_good k e s ≡ false → same s blank_record ≡ true → Blank ≡ record_answer (read_record k s)
  unfolding read_record record_answer
  answer_blank t u = sym (rw (epoch_is, t, u))

  pub answer_bad : is_good k e s ≡ false → same s blank_record ≡ false → Bad ≡ record_answer (read_record k s)
  unfolding read_record record_answer
  answer_bad t u = sym (rw (epoch_is, t, u))

pub good_fits : (k e : ℕ) (s : Bytes) → is_good k e s ≡ true → e ≤ 4294967295
unfolding is_good
good_fits k e s t = epoch_high e (and_left (is_epoch e) (same s (record_bytes e k)) t)
