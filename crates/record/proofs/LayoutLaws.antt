-- Laws of the layout: lengths, where each column stands, and that what is written determines what it was written from.
use Prim.Native.Nat.{ℕ, zero, suc, ◌+◌, ◌^◌, ◌<◌, ◌≤◌}
use mathlib.Core.Path.{◌≡◌, refl, sym, ◌∙◌, ap}
use mathlib.Core.Bool.{Bool, true, false, cond, true≢false}
use mathlib.Core.List.{[], ◌++◌, append_assoc}
use native.Mathlib.Omega.{arith}
use native.Mathlib.Nat.{div-eq_of_lt}
use lib.Pow.{pow_pos}
use lib.Dec.{eqb}
use lib.ListN.{length, get_or, take, drop, length-append, length-replicate}
use lib.Seq.{drop_at, take_at}
use borrow.Author.Tests.{eq-eqb, ne_eqb}
use Rattle.search.specs.Sets.{has}
use Rattle.slices.specs.Parts.{Bytes, part}
use Rattle.slices.proofs.PartLaws.{part_middle}
use Rattle.column.specs.Column.{column, value_of}
use Rattle.column.proofs.ColumnLaws.{length_column, value_column, column_injective}
use Rattle.record.specs.declared.Shape.{Shape}
use Rattle.record.specs.Claims.{WritableHeader}
use Rattle.record.specs.Layout.{is_witness, gives_first, header_size, first_column, sealed, fixed_word, witness_word, header_word, header_bytes, record_bytes, blank_record, padded, entry_bytes, fresh_entry}

-- ---- lengths

pub length_sealed : (b : Bytes) → length (sealed b) ≡ length b + 12
unfolding sealed
length_sealed b = simp (length-append, length_column)

pub header_size_low : (Z : Shape) → 28 ≤ header_size Z
unfolding header_size
header_size_low Z = go (gives_first Z)
  where
    go : (t : Bool) → 28 ≤ cond t 39 28
    go true = omega arith
    go false = omega arith

pub header_size_high : (Z : Shape) → header_size Z ≤ 39
unfolding header_size
header_size_high Z = go (gives_first Z)
  where
    go : (t : Bool) → cond t 39 28 ≤ 39
    go true = omega arith
    go false = omega arith

-- no bit, no witness
no_bit : (w c : ℕ) → w ≡ 0 → has w c ≡ false
unfolding has
no_bit w c none = rw (none, div-eq_of_lt (pow_pos c))

pub no_witness : (Z : Shape) → Z.witnesses ≡ 0 → (c : ℕ) → is_witness Z c ≡ false
unfolding is_witness
no_witness Z none zero = refl
no_witness Z none (suc c) = no_bit Z.witnesses _ none

-- its word: a card's and a witness's, both of four bytes
pub word_card : (Z : Shape) (c : ℕ) → is_witness Z c ≡ false → header_word Z c ≡ fixed_word
unfolding header_word
word_card Z c h = rw h

pub word_witness : (Z : Shape) (c : ℕ) → is_witness Z c ≡ true → header_word Z c ≡ witness_word
unfolding header_word
word_witness Z c h = rw h

pub length_word : (Z : Shape) (c : ℕ) → length (header_word Z c) ≡ 4
unfolding header_word
length_word Z c = go (is_witness Z c)
  where
    go : (t : Bool) → length (cond t witness_word fixed_word) ≡ 4
    go true = refl
    go false = refl

-- by its edition
pub header_size_one : (Z : Shape) → gives_first Z ≡ false → header_size Z ≡ 28
unfolding header_size
header_size_one Z h = rw h

pub header_size_two : (Z : Shape) → gives_first Z ≡ true → header_size Z ≡ 39
unfolding header_size
header_size_two Z h = rw h

pub first_none : (Z : Shape) (first : ℕ) → gives_first Z ≡ false → first_column Z first ≡ []
unfolding first_column
first_none Z first h = rw h

pub first_there : (Z : Shape) (first : ℕ) → gives_first Z ≡ true → first_column Z first ≡ column 11 first
unfolding first_column
first_there Z first h = rw h

length_first : (Z : Shape) (first : ℕ) → 28 + length (first_column Z first) ≡ header_size Z
unfolding first_column header_size
length_first Z first = go (gives_first Z)
  where
    go : (t : Bool) → 28 + length (cond t (column 11 first) []) ≡ cond t 39 28
    go true = omega (arith, length_column 11 first)
    go false = refl

pub length_header : (Z : Shape) (c first : ℕ) → length (header_bytes Z c first) ≡ header_size Z
unfolding header_bytes
length_header Z c first = simp (length_sealed, length-append, length_column) (omega (arith, length_word Z c, length_first Z first))

-- a shape of edition 2 gives its first index, and no other does
pub gives_two : (Z : Shape) → Z.edition ≡ 2 → gives_first Z ≡ true
unfolding gives_first
gives_two Z h = eq-eqb Z.edition 2 h

pub gives_other : (Z : Shape) → ¬ (Z.edition ≡ 2) → gives_first Z ≡ false
unfolding gives_first
gives_other Z h = ne_eqb Z.edition 2 h

pub length_record : (e k : ℕ) → length (record_bytes e k) ≡ 34
unfolding record_bytes
length_record e k = simp (length_sealed, length-append, length_column)

pub length_blank : length blank_record ≡ 34
unfolding blank_record
length_blank = refl

pub length_padded : (w : ℕ) (b : Bytes) → length b ≤ w → length (padded w b) ≡ w
unfolding padded
length_padded w b h = simp (length-append, length-replicate) (omega arith)

pub length_entry : (e k : ℕ) (p : Bytes) → length p ≤ 200 → length (entry_bytes e k p) ≡ 240
unfolding entry_bytes
length_entry e k p h = length_padded 240 _ (simp (length_sealed, length-append, length_column) (omega arith))

pub length_fresh : length fresh_entry ≡ 240
unfolding fresh_entry
length_fresh = length-replicate {A = ℕ} 240 32

-- ---- columns

-- a number is read where it was written
pub column_at : (u r : Bytes) (w x a : ℕ) → length u ≡ a → x < 10 ^ w → value_of (part (u ++ (column w x ++ r)) a w) ≡ x
column_at u r w x a h k = rw (part_middle u (column w x) r a w h (length_column w x)) (value_column w x k)

pub front_apart : (a b c d : Bytes) → length a ≡ length c → a ++ b ≡ c ++ d → (a ≡ c) × (b ≡ d)
front_apart a b c d h e = (
  sym (take_at a b (length c) h) ∙ ap (take (length c)) e ∙ take_at c d (length c) refl,
  sym (drop_at a b (length c) h) ∙ ap (drop (length c)) e ∙ drop_at c d (length c) refl,
)

pub column_apart : (w x y : ℕ) (r s : Bytes) → x < 10 ^ w → y < 10 ^ w → column w x ++ r ≡ column w y ++ s → (x ≡ y) × (r ≡ s)
column_apart w x y r s hx hy e =
    let h = front_apart (column w x) r (column w y) s (length_column w x ∙ sym (length_column w y)) e in
    (column_injective w x y hx hy h.0, h.1)

-- ---- what is written determines what it was written from

-- a witness's word is no card's
word_apart : (Z Y : Shape) (c d : ℕ) → header_word Z c ≡ header_word Y d → is_witness Z c ≡ is_witness Y d
unfolding header_word
word_apart Z Y c d = go (is_witness Z c) (is_witness Y d)
  where
    go : (t u : Bool) → cond t witness_word fixed_word ≡ cond u witness_word fixed_word → t ≡ u
    go true true e = refl
    go true false e = absurd (let z : ◌≡◌ {A = ℕ} 119 114 = ap (λ (b : Bytes). get_or b 0 0) e in omega (arith, z))
    go false true e = absurd (let z : ◌≡◌ {A = ℕ} 114 119 = ap (λ (b : Bytes). get_or b 0 0) e in omega (arith, z))
    go false false e = refl

module _ (Z Y : Shape) (c d first first' : ℕ) (a : WritableHeader Z c first) (b : WritableHeader Y d first') where
  first_apart : (t u : Bool) → t ≡ u → (r s : Bytes) → cond t (column 11 first) [] ++ r ≡ cond u (column 11 first') [] ++ s → t ≡ true → first ≡ first'
  first_apart true true e r s h k = (column_apart 11 first first' r s a.first_fits b.first_fits h).0
  first_apart true false e r s h k = absurd (true≢false e)
  first_apart false u e r s h k = absurd (true≢false (sym k))

  alike : Z.edition ≡ Y.edition → gives_first Z ≡ gives_first Y
  unfolding gives_first
  alike e = ap (λ (q : ℕ). eqb q 2) e

  pub header_determined : header_bytes Z c first ≡ header_bytes Y d first'
      → (Z.edition ≡ Y.edition) × (c ≡ d) × (Z.n ≡ Y.n) × (Z.m ≡ Y.m) × (is_witness Z c ≡ is_witness Y d) × (gives_first Z ≡ true → first ≡ first')
  unfolding header_bytes sealed first_column
  header_determined h =
      let z = front_apart (header_word Z c) _ (header_word Y d) _ (length_word Z c ∙ sym (length_word Y d)) (simp append_assoc at h) in
      let e = column_apart 3 Z.edition Y.edition _ _ a.edition_fits b.edition_fits z.1 in
      let x = column_apart 3 c d _ _ a.replica_fits b.replica_fits e.1 in
      let y = column_apart 3 Z.n Y.n _ _ a.replicas_fit b.replicas_fit x.1 in
      let w = column_apart 3 Z.m Y.m _ _ a.slots_fit b.slots_fit y.1 in
      (e.0, x.0, y.0, w.0, word_apart Z Y c d z.0, first_apart (gives_first Z) (gives_first Y) (alike e.0) _ _ w.1)

pub record_determined : (e k e' k' : ℕ) → e < 10 ^ 11 → k < 10 ^ 11 → e' < 10 ^ 11 → k' < 10 ^ 11
    → record_bytes e k ≡ record_bytes e' k' → (e ≡ e') × (k ≡ k')
unfolding record_bytes sealed
record_determined e k e' k' he hk he' hk' h =
    let a = column_apart 11 e e' _ _ he he' (simp append_assoc at h) in
    (a.0, (column_apart 11 k k' _ _ hk hk' a.1).0)

pub entry_determined : (e k : ℕ) (p : Bytes) (e' k' : ℕ) (p' : Bytes) → e < 10 ^ 11 → k < 10 ^ 11 → length p ≤ 200
    → e' < 10 ^ 11 → k' < 10 ^ 11 → length p' ≤ 200 → entry_bytes e k p ≡ entry_bytes e' k' p' → (e ≡ e') × (k ≡ k') × (p ≡ p')
unfolding entry_bytes padded sealed
entry_determined e k p e' k' p' he hk hp he' hk' hp' h =
    let a = column_apart 11 e e' _ _ he he' (simp append_assoc at h) in
    let b = column_apart 11 k k' _ _ hk hk' a.1 in
    let l = column_apart 4 (length p) (length p') _ _ (omega arith) (omega arith) b.1 in
    (a.0, b.0, (front_apart p _ p' _ l.0 l.1).0)
