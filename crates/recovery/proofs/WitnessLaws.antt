-- What the code's test of a replica tells, which counts from 1.
use Prim.Native.Nat.{ℕ, suc}
use mathlib.Core.Path.{◌≡◌, sym, ◌∙◌}
use mathlib.Core.Bool.{Bool}
use Rattle.record.specs.declared.Shape.{Shape}
use Rattle.record.specs.Layout.{is_witness}

pub is_told : (Z : Shape) (c : ℕ) {t v : Bool} {number : ℕ} → t ≡ is_witness Z number → number ≡ suc c → t ≡ v → is_witness Z (suc c) ≡ v
is_told Z c e n h = rw n at (sym e ∙ h)
