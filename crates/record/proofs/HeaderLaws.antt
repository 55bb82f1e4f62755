-- Laws of headers: proper exactly if the writer writes it, and reader and writer undo each other.
use Prim.Native.Nat.{ℕ, ◌+◌, ◌-◌, ◌^◌, ◌≤◌, ◌<◌}
use mathlib.Core.Path.{◌≡◌, refl, sym, ap, ◌∙◌}
use mathlib.Core.Bool.{Bool, true, false, cond, ◌&&◌, true≢false}
use mathlib.Core.List.{◌++◌, append_assoc}
use native.Mathlib.Omega.{arith}
use lib.Dec.{eqb, leb}
use lib.ListN.{length, length-append}
use borrow.Author.Tests.{eqb-true, leb-true, eq-eqb, le-leb}
use Rattle.slices.specs.Parts.{Bytes, part}
use Rattle.slices.specs.Same.{same}
use Rattle.slices.proofs.SameLaws.{and_left, and_right, and_true, not_so, same_eq, same_true}
use Rattle.column.specs.Column.{column, value_of}
use Rattle.column.proofs.ColumnLaws.{length_column}
use Rattle.record.specs.declared.Shape.{Shape}
use Rattle.record.specs.Layout.{gives_first, first_column, sealed, header_word, header_bytes}
use Rattle.record.specs.Meaning.{Header, proper, improper, first_index, is_first, header_first, is_header, read_header, write_header}
use Rattle.record.specs.Exactly.{HeaderFor, HeaderIs}
use Rattle.record.proofs.LayoutLaws.{column_at, length_word, first_there}

-- ---- a first index

-- in edition 2 and in edition 1
pub first_two : (Z : Shape) (first : ℕ) → gives_first Z ≡ true → is_first Z first ≡ (leb 1 first && leb (first + (Z.m - 1)) 4294967295)
unfolding is_first
first_two Z first e = rw e

pub first_other : (Z : Shape) (first : ℕ) → gives_first Z ≡ false → is_first Z first ≡ eqb first 1
unfolding is_first
first_other Z first e = rw e

module _ (Z : Shape) (first : ℕ) (h : is_first Z first ≡ true) where
  pub first_one : gives_first Z ≡ false → first ≡ 1
  first_one e = eqb-true first 1 (sym (first_other Z first e) ∙ h)

  module _ (e : gives_first Z ≡ true) where
    low_two : 1 ≤ first
    low_two = leb-true 1 first (and_left (leb 1 first) (leb (first + (Z.m - 1)) 4294967295) (sym (first_two Z first e) ∙ h))

    pub last_two : first + (Z.m - 1) ≤ 4294967295
    last_two = leb-true (first + (Z.m - 1)) 4294967295 (and_right (leb 1 first) (leb (first + (Z.m - 1)) 4294967295) (sym (first_two Z first e) ∙ h))

  pub first_low : 1 ≤ first
  first_low = go (gives_first Z) refl
    where
      go : (t : Bool) → gives_first Z ≡ t → 1 ≤ first
      go true e = low_two e
      go false e = omega (arith, first_one e)

  pub first_high : first ≤ 4294967295
  first_high = go (gives_first Z) refl
    where
      go : (t : Bool) → gives_first Z ≡ t → first ≤ 4294967295
      go true e = omega (arith, last_two e)
      go false e = omega (arith, first_one e)

  pub last_high : Z.m ≤ 64 → first + (Z.m - 1) ≤ 4294967295
  last_high few = go (gives_first Z) refl
    where
      go : (t : Bool) → gives_first Z ≡ t → first + (Z.m - 1) ≤ 4294967295
      go true e = last_two e
      go false e = omega (arith, first_one e)

-- what makes one
pub is_first_lem : (Z : Shape) (first : ℕ) → 1 ≤ first → first + (Z.m - 1) ≤ 4294967295 → (gives_first Z ≡ false → first ≡ 1) → is_first Z first ≡ true
is_first_lem Z first low high one = go (gives_first Z) refl
  where
    go : (t : Bool) → gives_first Z ≡ t → is_first Z first ≡ true
    go true e = first_two Z first e ∙ rw (le-leb 1 first low, le-leb (first + (Z.m - 1)) 4294967295 high)
    go false e = first_other Z first e ∙ eq-eqb first 1 (one e)

-- a number behind five others, where it was written
sixth : (u v w x y z t : Bytes) (first : ℕ) → length (u ++ (v ++ (w ++ (x ++ y)))) ≡ 16 → z ≡ column 11 first → first < 10 ^ 11
    → value_of (part ((u ++ (v ++ (w ++ (x ++ (y ++ z))))) ++ t) 16 11) ≡ first
sixth u v w x y z t first h e low =
    let regroup : (u ++ (v ++ (w ++ (x ++ (y ++ z))))) ++ t ≡ (u ++ (v ++ (w ++ (x ++ y)))) ++ (z ++ t) = simp append_assoc in
    rw (regroup, e) (column_at (u ++ (v ++ (w ++ (x ++ y)))) t 11 first 16 h low)

column_back : (Z : Shape) (c first : ℕ) → gives_first Z ≡ true → first < 10 ^ 11 → value_of (part (header_bytes Z c first) 16 11) ≡ first
unfolding header_bytes sealed
column_back Z c first e low =
    sixth (header_word Z c) (column 3 Z.edition) (column 3 c) (column 3 Z.n) (column 3 Z.m) (first_column Z first) _ first (simp (length-append, length_column, length_word)) (first_there Z first e) low

-- so the first index is read where it was written
first_back : (Z : Shape) (c first : ℕ) → is_first Z first ≡ true → header_first Z (header_bytes Z c first) ≡ first
unfolding header_first
first_back Z c first h = go (gives_first Z) refl
  where
    go : (t : Bool) → gives_first Z ≡ t → cond t (value_of (part (header_bytes Z c first) 16 11)) 1 ≡ first
    go true e = column_back Z c first e (omega (arith, first_high Z first h))
    go false e = sym (first_one Z first h e)

module _ (Z : Shape) (c : ℕ) (b : Bytes) where
  test_header : (first : ℕ) → is_header Z c first b ≡ true → HeaderFor Z c first b
  unfolding is_header
  test_header first t = record {
    first_index_lem = and_left (is_first Z first) (same b (header_bytes Z c first)) t;
    bytes = same_true b (header_bytes Z c first) (and_right (is_first Z first) (same b (header_bytes Z c first)) t);
  }

  -- the bytes could mean this first index only
  only_first : (first : ℕ) → HeaderFor Z c first b → header_first Z b ≡ first
  only_first first h = ap (header_first Z) h.bytes ∙ first_back Z c first h.first_index_lem

  passes : (first : ℕ) → HeaderFor Z c first b → is_header Z c (header_first Z b) b ≡ true
  unfolding is_header
  passes first h =
      rw (only_first first h) (and_true (is_first Z first) (same b (header_bytes Z c first)) h.first_index_lem (same_eq b (header_bytes Z c first) h.bytes))

  pub header_is : HeaderIs Z c b (read_header Z c b)
  unfolding read_header
  header_is = go (is_header Z c (header_first Z b) b) refl
    where
      go : (t : Bool) → is_header Z c (header_first Z b) b ≡ t → HeaderIs Z c b (cond t (proper (header_first Z b)) (improper b))
      go true t = test_header (header_first Z b) t
      go false t = (refl, λ first h. true≢false (sym (passes first h) ∙ t))

  pub header_read : (h : Header) → HeaderIs Z c b h → read_header Z c b ≡ h
  unfolding read_header
  header_read (proper first) h = rw (passes first h) (ap proper (only_first first h))
  header_read (improper z) h =
      rw (not_so (is_header Z c (header_first Z b) b) (λ t. h.1 (header_first Z b) (test_header (header_first Z b) t))) (ap improper (sym h.0))

  pub proper_read : (first : ℕ) → HeaderFor Z c first b → read_header Z c b ≡ proper first
  proper_read first h = header_read (proper first) h

  header_written : (h : Header) → HeaderIs Z c b h → write_header Z c h ≡ b
  unfolding write_header
  header_written (proper first) h = sym h.bytes
  header_written (improper z) h = h.0

  pub write_read_header : write_header Z c (read_header Z c b) ≡ b
  write_read_header = header_written (read_header Z c b) header_is

pub read_proper : (Z : Shape) (c first : ℕ) → is_first Z first ≡ true → read_header Z c (header_bytes Z c first) ≡ proper first
read_proper Z c first h = proper_read Z c (header_bytes Z c first) first (record { first_index_lem = h; bytes = refl })

-- ---- the first index of a header that is read

read_first : (Z : Shape) (c : ℕ) (b : Bytes) (h : Header) → HeaderIs Z c b h → (P : ℕ → Type 0) → P 1 → ((first : ℕ) → is_first Z first ≡ true → P first) → P (first_index h)
unfolding first_index
read_first Z c b (proper first) h P one f = f first h.first_index_lem
read_first Z c b (improper z) h P one f = one

-- it is at most 4,294,967,295
pub read_first_high : (Z : Shape) (c : ℕ) (b : Bytes) → first_index (read_header Z c b) ≤ 4294967295
read_first_high Z c b = read_first Z c b (read_header Z c b) (header_is Z c b) (λ first. first ≤ 4294967295) (omega arith) (λ first h. omega (arith, first_high Z first h))

-- and 1 where the edition does not give it
pub read_first_one : (Z : Shape) (c : ℕ) (b : Bytes) → gives_first Z ≡ false → first_index (read_header Z c b) ≡ 1
read_first_one Z c b e = read_first Z c b (read_header Z c b) (header_is Z c b) (λ first. first ≡ 1) refl (λ first h. first_one Z first h e)
