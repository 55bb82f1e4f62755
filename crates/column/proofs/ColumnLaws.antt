-- Laws of columns: how long they are, and that they say their number.
use Prim.Native.Nat.{ℕ, zero, suc, ◌+◌, ◌-◌, ◌*◌, ◌/◌, ◌%◌, ◌^◌, ◌≤◌, ◌<◌}
use mathlib.Core.Path.{◌≡◌, refl, sym, ap, ◌∙◌}
use mathlib.Core.Bool.{Bool, true, false, cond, ◌&&◌}
use mathlib.Core.List.{[], ◌∷◌, ◌++◌}
use native.Mathlib.Omega.{arith}
use native.Mathlib.Numerals.{add-one}
use native.Mathlib.Nat.{pow-suc, zero-add}
use lib.Dec.{eqb, leb}
use lib.ListN.{length, take, drop, length-append, length-take, length-drop}
use borrow.Author.Tests.{eqb-true, leb-true, le-leb}
use borrow.Rule.Slice.PartMut.{put_mid}
use Rattle.slices.specs.Parts.{Bytes, spliced}
use Rattle.slices.proofs.SameLaws.{and_right}
use Rattle.slices.proofs.SpliceLaws.{part_put}
use Rattle.column.specs.Column.{digits, column, digit_step, value_from, value_of}
use Rattle.column.specs.Digit.{last_byte, high_byte}

-- ---- made of their bytes

pub digits_suc : (w x : ℕ) → digits (suc w) x ≡ digits w (x / 10) ++ (high_byte x ∷ [])
unfolding digits high_byte
digits_suc w x = refl

pub column_suc : (w x : ℕ) → column (suc w) x ≡ digits w (x / 10) ++ (last_byte x ∷ [])
unfolding column last_byte
column_suc w x = refl

pub length_digits : (w x : ℕ) → length (digits w x) ≡ w
unfolding digits
length_digits zero x = refl
length_digits (suc w) x = rw (length-append, length_digits w (x / 10), add-one)

pub length_column : (w x : ℕ) → length (column w x) ≡ w
unfolding column
length_column zero x = refl
length_column (suc w) x = rw (length-append, length_digits w (x / 10), add-one)

-- ---- read from the left

value_append : (v : ℕ) (xs ys : Bytes) → value_from v (xs ++ ys) ≡ value_from (value_from v xs) ys
unfolding value_from
value_append v [] ys = refl
value_append v (x ∷ xs) ys = value_append (digit_step v x) xs ys

digit_step_digit : (v d : ℕ) → d < 10 → digit_step v (48 + d) ≡ v * 10 + d
unfolding digit_step
digit_step_digit v d h = rw (le-leb 48 (48 + d) (omega arith), le-leb (48 + d) 57 (omega arith)) (omega arith)

step_last : (x : ℕ) → digit_step (x / 10) (last_byte x) ≡ x
unfolding last_byte
step_last x = digit_step_digit (x / 10) (x % 10) (omega arith) ∙ omega arith

step_high : (x : ℕ) → digit_step (x / 10) (high_byte x) ≡ x
unfolding high_byte digit_step
step_high x = go (eqb x 0) refl
  where
    go : (t : Bool) → eqb x 0 ≡ t → digit_step (x / 10) (cond t 32 (48 + x % 10)) ≡ x
    go true e = let z : x ≡ 0 = eqb-true x 0 e in omega arith
    go false e = digit_step_digit (x / 10) (x % 10) (omega arith) ∙ omega arith

value_digits : (w x : ℕ) → x < 10 ^ w → value_from 0 (digits w x) ≡ x
unfolding digits value_from high_byte
value_digits zero x h = omega arith
value_digits (suc w) x h =
    value_append 0 (digits w (x / 10)) (high_byte x ∷ [])
    ∙ ap (λ (v : ℕ). value_from v (high_byte x ∷ [])) (value_digits w (x / 10) (omega (arith, pow-suc 10 w)))
    ∙ step_high x

-- a number that fits its column is the one that is read there
pub value_column : (w x : ℕ) → x < 10 ^ w → value_of (column w x) ≡ x
unfolding value_of column value_from last_byte
value_column zero x h = omega arith
value_column (suc w) x h =
    value_append 0 (digits w (x / 10)) (last_byte x ∷ [])
    ∙ ap (λ (v : ℕ). value_from v (last_byte x ∷ [])) (value_digits w (x / 10) (omega (arith, pow-suc 10 w)))
    ∙ step_last x

pub column_injective : (w x y : ℕ) → x < 10 ^ w → y < 10 ^ w → column w x ≡ column w y → x ≡ y
column_injective w x y h k e = sym (value_column w x h) ∙ ap value_of e ∙ value_column w y k

-- ---- how large a number can be read

step_lt_go : (t : Bool) (v b n : ℕ) → (t ≡ true → b ≤ 57) → v < n → cond t (v * 10 + (b - 48)) v < n * 10
step_lt_go true v b n f h = omega (arith, f refl)
step_lt_go false v b n f h = omega arith

pub step_lt : (v b i : ℕ) → v < 10 ^ i → digit_step v b < 10 ^ suc i
unfolding digit_step
step_lt v b i h =
    rw (pow-suc 10 i)
    (step_lt_go (leb 48 b && leb b 57) v b (10 ^ i) (λ t. leb-true b 57 (and_right (leb 48 b) (leb b 57) t)) h)

value_lt_from : (b : Bytes) (v i : ℕ) → v < 10 ^ i → value_from v b < 10 ^ (i + length b)
unfolding value_from
value_lt_from [] v i h = let e : i + 0 ≡ i = omega arith in rw e h
value_lt_from (x ∷ b) v i h =
    let e : i + suc (length b) ≡ suc i + length b = omega arith in
    rw e (value_lt_from b (digit_step v x) (suc i) (step_lt v x i h))

pub value_lt : (b : Bytes) → value_of b < 10 ^ length b
unfolding value_of
value_lt b = rw zero-add at (value_lt_from b 0 0 (omega arith))

-- a lent column that is written
pub column_put : (s : Bytes) (at w x : ℕ) {v : Bytes} → at + w ≤ length s → v ≡ column (length (take (at + w - at) (drop at s))) x
    → put_mid at (at + w - at) s v ≡ spliced s at (column w x)
column_put s at w x {v} fits e =
    let l : length (take (at + w - at) (drop at s)) ≡ w = simp (length-take, length-drop) (omega arith) in
    part_put s at w (column w x) (rw l at e) (length_column w x)
