-- One step, and the end, of each loop of this crate.
use Prim.Native.Nat.{ℕ, suc, ◌+◌, ◌-◌, ◌<◌, ◌≤◌}
use mathlib.Core.Path.{◌≡◌, refl, sym, ◌∙◌}
use mathlib.Core.Bool.{◌&&◌}
use lib.Dec.{eqb}
use lib.Bits.{bit_or, bit_xor}
use native.Mathlib.Omega.{arith}
use native.Mathlib.Numerals.{add-one}
use lib.ListN.{length, take, drop, get_or, set, replicate, drop_of_length-le}
use lib.Seq.{take-suc, take-suc-set, take_all, drop-cons}
use Rattle.slices.specs.Parts.{Bytes}
use Rattle.slices.specs.Same.{same}
use Rattle.slices.proofs.SameLaws.{and_assoc, and_unit}
use Rattle.slices.proofs.DifferingLaws.{differing_step}

-- ---- compared to the end

-- one more byte compared
module _ (d : ℕ) (xs ys : Bytes) (i : ℕ) (h : i < length xs) (k : i < length ys) where
  pub same_step :
      (eqb d 0 && same (drop i xs) (drop i ys))
      ≡ (eqb (bit_or d (bit_xor (get_or xs i 0) (get_or ys i 0))) 0 && same (drop (i + 1) xs) (drop (i + 1) ys))
  unfolding same
  same_step =
      rw (add-one, drop-cons xs i 0, drop-cons ys i 0, differing_step d (get_or xs i 0) (get_or ys i 0)) (sym (and_assoc (eqb d 0) _ _))

pub same_end : (d : ℕ) (xs ys : Bytes) (i : ℕ) → length xs ≤ i → length ys ≤ i → (eqb d 0 && same (drop i xs) (drop i ys)) ≡ eqb d 0
unfolding same
same_end d xs ys i h k = rw (drop_of_length-le xs h, drop_of_length-le ys k) (and_unit (eqb d 0))

-- ---- compared with one byte

pub all_step :
    (d : ℕ) (xs : Bytes) (v i : ℕ) →
    i < length xs →
    (eqb d 0 && same (drop i xs) (replicate (length xs - i) v))
    ≡ (eqb (bit_or d (bit_xor (get_or xs i 0) v)) 0 && same (drop (i + 1) xs) (replicate (length xs - (i + 1)) v))
unfolding same
all_step d xs v i h =
    let n : length xs - i ≡ suc (length xs - (i + 1)) = omega arith in
    rw (n, add-one, drop-cons xs i 0, differing_step d (get_or xs i 0) v) (sym (and_assoc (eqb d 0) _ _))

pub all_end : (d : ℕ) (xs : Bytes) (v i : ℕ) → length xs ≤ i → (eqb d 0 && same (drop i xs) (replicate (length xs - i) v)) ≡ eqb d 0
unfolding same
all_end d xs v i h = let n : length xs - i ≡ 0 = omega arith in rw (n, drop_of_length-le xs h) (and_unit (eqb d 0))

-- ---- copied from the front

pub copy_step : (d s : Bytes) (i : ℕ) → i < length d → i < length s → take i d ≡ take i s → take (i + 1) (set d i (get_or s i 0)) ≡ take (i + 1) s
copy_step d s i h k e = rw (add-one, take-suc-set d i (get_or s i 0) h, take-suc s i 0 k, e) refl

pub copy_end : (d s : Bytes) (i : ℕ) → length d ≤ i → length s ≤ i → take i d ≡ take i s → d ≡ s
copy_end d s i h k e = sym (take_all i d h) ∙ e ∙ take_all i s k
