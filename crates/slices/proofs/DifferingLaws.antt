-- The digits in which bytes differ, gathered by `or`: there are none exactly if all are the same.
use Prim.Native.Nat.{ℕ, zero, suc, ◌+◌, ◌*◌, ◌≤◌}
use mathlib.Core.Path.{◌≡◌, refl}
use mathlib.Core.Bool.{Bool, true, false, ◌&&◌}
use native.Mathlib.Omega.{arith}
use lib.Dec.{eqb, eqb-suc-zero}
use lib.Bits.{bit_and, bit_or, bit_xor, or_add_and, xor_add_and, xor_self, and_le_l, and_le_r}
use borrow.Author.Tests.{eqb-true, eqb-false, eq-eqb, ne_eqb}

or_none : (a b : ℕ) → bit_or a b ≡ 0 → a ≡ 0
or_none a b e =
    let s : bit_or a b + bit_and a b ≡ a + b = or_add_and a b in
    let r : bit_and a b ≤ b = and_le_r a b in
    omega arith

xor_none : (a b : ℕ) → bit_xor a b ≡ 0 → a ≡ b
xor_none a b e =
    let s : bit_xor a b + bit_and a b * 2 ≡ a + b = xor_add_and a b in
    let l : bit_and a b ≤ a = and_le_l a b in
    let r : bit_and a b ≤ b = and_le_r a b in
    omega arith

xor_test : (x y : ℕ) → eqb (bit_xor x y) 0 ≡ eqb x y
xor_test x y = go (eqb x y) refl
  where
    go : (t : Bool) → eqb x y ≡ t → eqb (bit_xor x y) 0 ≡ t
    go true e = eq-eqb (bit_xor x y) 0 (rw (eqb-true x y e) (xor_self y))
    go false e = ne_eqb (bit_xor x y) 0 (λ n. eqb-false x y e (xor_none x y n))

pub differing_step : (d x y : ℕ) → eqb (bit_or d (bit_xor x y)) 0 ≡ (eqb d 0 && eqb x y)
differing_step zero x y = xor_test x y
differing_step (suc d) x y = rw (eqb-suc-zero d) (ne_eqb (bit_or (suc d) (bit_xor x y)) 0 (λ e. let z : suc d ≡ 0 = or_none (suc d) (bit_xor x y) e in omega arith))
