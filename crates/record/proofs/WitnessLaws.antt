-- Which replicas are witnesses, as code tests it: a bit of the set's word.
use Prim.Native.Nat.{ℕ, suc, ◌-◌, ◌/◌, ◌^◌, ◌<◌, ◌≤◌}
use mathlib.Core.Path.{◌≡◌, sym, ap, ◌∙◌}
use mathlib.Core.Bool.{Bool, false}
use native.Mathlib.Omega.{arith}
use native.Mathlib.Nat.{div-eq_of_lt}
use lib.Bits.{bit_and, and_mask}
use lib.Pow.{pow_mono}
use lib.Dec.{eqb}
use Rattle.search.specs.Sets.{has}
use Rattle.record.specs.declared.Shape.{Shape}
use Rattle.record.specs.Layout.{is_witness}

-- no replica has number 0
pub witness_zero : (Z : Shape) (r : ℕ) → r < 1 → is_witness Z r ≡ false
unfolding is_witness
witness_zero Z r h = let z : r ≡ 0 = omega arith in rw z

-- a word of 32 bits has no bit for a number above 32
high_bit : (w c : ℕ) → w < 4294967296 → 32 ≤ c → has w c ≡ false
unfolding has
high_bit w c low h =
    let p : 4294967296 ≤ 2 ^ c = pow_mono h in
    let q : w < 2 ^ c = omega (arith, p) in
    rw (div-eq_of_lt q)

pub witness_high : (Z : Shape) (r : ℕ) → Z.witnesses < 4294967296 → 32 < r → is_witness Z r ≡ false
unfolding is_witness
witness_high Z r low h = let z : r ≡ suc (r - 1) = omega arith in rw z (high_bit Z.witnesses _ low (omega arith))

-- `(witnesses >> c) & 1 == 1`
pub witness_bit : (Z : Shape) (r c : ℕ) → 1 ≤ r → c ≡ r - 1 → eqb (bit_and (Z.witnesses / 2 ^ c) 1) 1 ≡ is_witness Z r
unfolding is_witness has
witness_bit Z r c h q = let z : r ≡ suc c = omega arith in rw (z, and_mask (Z.witnesses / 2 ^ c) 1)

-- what the test of a number says, if it is the replica's
pub kind_of : (Z : Shape) (c : ℕ) {d : ℕ} {t u : Bool} → d ≡ c → t ≡ is_witness Z d → t ≡ u → is_witness Z c ≡ u
kind_of Z c q is h = ap (is_witness Z) (sym q) ∙ sym is ∙ h
