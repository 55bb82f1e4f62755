-- One step, and the end, of each loop of this crate.
use Prim.Native.Nat.{ℕ, zero, suc, ◌+◌, ◌/◌, ◌^◌, ◌<◌, ◌≤◌}
use mathlib.Core.Path.{◌≡◌, refl, sym, ◌∙◌, ap, ap₂}
use mathlib.Core.Bool.{Bool, true, false}
use mathlib.Core.List.{[], ◌∷◌, ◌++◌, append_assoc}
use native.Mathlib.Omega.{arith}
use native.Mathlib.Numerals.{add-one}
use native.Mathlib.Nat.{pow-le-pow_right}
use lib.ListN.{length, take, drop, get_or, set, length-append, length-set, drop_of_length-le}
use lib.Seq.{take-suc, drop-cons, get_or-set_same, drop-set-lt}
use lib.Dec.{eqb}
use borrow.Author.Tests.{eq-eqb, ne_eqb}
use Rattle.slices.specs.Parts.{Bytes}
use Rattle.slices.specs.Same.{same}
use Rattle.slices.proofs.SameLaws.{and_off, same_append, same_eq, and_on}
use Rattle.column.specs.Column.{digits, column, digit_step, value_from}
use Rattle.column.specs.Digit.{last_byte, high_byte}
use Rattle.column.proofs.ColumnLaws.{digits_suc, column_suc, length_digits}

-- an empty column
pub column_none : (s : Bytes) (x : ℕ) → length s ≡ 0 → s ≡ column (length s) x
unfolding column
column_none [] x h = refl
column_none (b ∷ s) x h = absurd (omega arith)

-- ---- written from the right

-- a store at j is the first of what is dropped from j on
drop_stored : (s : Bytes) (j b : ℕ) → j < length s → drop j (set s j b) ≡ b ∷ drop (suc j) s
drop_stored s j b h =
    drop-cons (set s j b) j 0 (simp length-set (omega arith)) ∙ rw (get_or-set_same s j b 0 h, drop-set-lt (suc j) s j b (omega arith)) refl

pub write_step : (s : Bytes) (i j rest b : ℕ) → i ≡ suc j → i ≤ length s → b ≡ high_byte rest
    → digits j (rest / 10) ++ drop j (set s j b) ≡ digits i rest ++ drop i s
write_step s i j rest b n h e = rw (drop_stored s j b (omega arith), n, digits_suc, append_assoc, e) refl

-- what stands before the last byte, and that byte
pub write_end :
    (s old front : Bytes) (a b i rest x : ℕ) →
    s ≡ old ++ (a ∷ []) →
    i ≤ 0 →
    digits i rest ++ drop i front ≡ digits (length old) (x / 10) →
    b ≡ last_byte x →
    front ++ (b ∷ []) ≡ column (length s) x
unfolding digits
write_end s old front a b zero rest x parts h e k =
    rw (ap length parts, length-append, add-one, column_suc, e, k) refl
write_end s old front a b (suc i) rest x parts h e k = absurd (omega arith)

-- ---- compared from the right

pub holds_none : (s : Bytes) (x : ℕ) → length s ≡ 0 → true ≡ same s (column (length s) x)
holds_none s x h = sym (same_eq s (column (length s) x) (column_none s x h))

same_one : (x y : ℕ) (t : Bool) → eqb x y ≡ t → same (x ∷ []) (y ∷ []) ≡ t
unfolding same
same_one x y true e = rw e
same_one x y false e = rw e

-- the last byte of two lists as long
same_snoc : (xs ys : Bytes) (x y : ℕ) → length xs ≡ length ys → x ≡ y → same (xs ++ (x ∷ [])) (ys ++ (y ∷ [])) ≡ same xs ys
same_snoc xs ys x y h e = same_append xs (x ∷ []) ys (y ∷ []) h ∙ rw (same_one x y true (eq-eqb x y e)) (and_on (same xs ys))

same_snoc_off : (xs ys : Bytes) (x y : ℕ) → length xs ≡ length ys → (x ≡ y → ⊥) → same (xs ++ (x ∷ [])) (ys ++ (y ∷ [])) ≡ false
same_snoc_off xs ys x y h e = same_append xs (x ∷ []) ys (y ∷ []) h ∙ rw (same_one x y false (ne_eqb x y e)) (and_off (same xs ys))

-- what stands before the last byte, and that byte
module _ (s front : Bytes) (b : ℕ) (parts : s ≡ front ++ (b ∷ [])) where
  length_parts : length s ≡ suc (length front)
  length_parts = ap length parts ∙ simp length-append (add-one (length front))

  as_long : (x : ℕ) → length front ≡ length (digits (length front) x)
  as_long x = sym (length_digits (length front) x)

  module _ (rest c : ℕ) (e : c ≡ high_byte rest) where
    high_split : same s (digits (length s) rest) ≡ same (front ++ (b ∷ [])) (digits (length front) (rest / 10) ++ (high_byte rest ∷ []))
    high_split = ap₂ same parts (ap (λ (n : ℕ). digits n rest) length_parts ∙ digits_suc (length front) rest)

    pub holds_step : b ≡ c → same front (digits (length front) (rest / 10)) ≡ same s (digits (length s) rest)
    holds_step k =
        sym (high_split ∙ same_snoc front (digits (length front) (rest / 10)) b (high_byte rest) (as_long (rest / 10)) (k ∙ e))

    pub holds_off : (b ≡ c → ⊥) → false ≡ same s (digits (length s) rest)
    holds_off k =
        sym (high_split ∙ same_snoc_off front (digits (length front) (rest / 10)) b (high_byte rest) (as_long (rest / 10)) (λ q. k (q ∙ sym e)))

  module _ (x c : ℕ) (e : c ≡ last_byte x) where
    last_split : same s (column (length s) x) ≡ same (front ++ (b ∷ [])) (digits (length front) (x / 10) ++ (last_byte x ∷ []))
    last_split = ap₂ same parts (ap (λ (n : ℕ). column n x) length_parts ∙ column_suc (length front) x)

    pub holds_start : b ≡ c → same front (digits (length front) (x / 10)) ≡ same s (column (length s) x)
    holds_start k =
        sym (last_split ∙ same_snoc front (digits (length front) (x / 10)) b (last_byte x) (as_long (x / 10)) (k ∙ e))

    pub holds_last_off : (b ≡ c → ⊥) → false ≡ same s (column (length s) x)
    holds_last_off k =
        sym (last_split ∙ same_snoc_off front (digits (length front) (x / 10)) b (last_byte x) (as_long (x / 10)) (λ q. k (q ∙ sym e)))

-- the first i bytes, and the last of them
pub last_left : (s : Bytes) (i j : ℕ) → i ≡ suc j → i ≤ length s → take i s ≡ take j s ++ (get_or s j 0 ∷ [])
last_left s i j n h = let k : j < length s = omega arith in rw (n, take-suc s j 0 k) refl

pub holds_end : (s : Bytes) (x : ℕ) → length s ≡ 0 → true ≡ same s (digits (length s) x)
unfolding digits same
holds_end [] x h = refl
holds_end (b ∷ s) x h = absurd (omega arith)

-- ---- read from the left

pub value_step : (s : Bytes) (v i : ℕ) → i < length s → value_from v (drop i s) ≡ value_from (digit_step v (get_or s i 0)) (drop (i + 1) s)
unfolding value_from
value_step s v i h = rw (add-one, drop-cons s i 0) refl

pub value_end : (s : Bytes) (v i : ℕ) → length s ≤ i → value_from v (drop i s) ≡ v
unfolding value_from
value_end s v i h = rw (drop_of_length-le s h) refl

pub pow_le : (i : ℕ) → i ≤ 18 → 10 ^ i ≤ 1000000000000000000
pow_le i h = pow-le-pow_right (omega arith) h
