-- A word has a bit at or above n exactly if it is not below 2 to the power n.
use Prim.Native.Nat.{ℕ, zero, suc, ◌+◌, ◌/◌, ◌%◌, ◌^◌, ◌≤◌, ◌<◌}
use mathlib.Core.Path.{◌≡◌, refl, sym, ap, ◌∙◌}
use native.Mathlib.Omega.{arith}
use native.Mathlib.Nat.{div-one, div-div-eq-div-mul, div-eq_of_lt, div-lt_iff_lt-mul, one-mul, pow-succ'}
use lib.Pow.{pow_pos, pow-add, pow_mono}

-- a bit of q that is one
pub record One (q : ℕ) : Type 0 where
  pub at : ℕ
  pub is : q / 2 ^ at % 2 ≡ 1

-- bit j of the half is bit j + 1
half : (q j : ℕ) → q / 2 ^ suc j ≡ q / 2 / 2 ^ j
half q j = ap (λ (x : ℕ). q / x) (pow-succ' 2 j) ∙ sym (div-div-eq-div-mul q 2 (2 ^ j))

-- a word that is not 0 has one
some_one : (f q : ℕ) → q ≤ f → ¬ (q ≡ 0) → One q
some_one zero q h z = absurd (z (omega arith))
some_one (suc f) q h z = go (q % 2) refl (λ y. some_one f (q / 2) (omega arith) y)
  where
    go : (d : ℕ) → q % 2 ≡ d → (¬ (q / 2 ≡ 0) → One (q / 2)) → One q
    go zero e rest = let i = rest (λ y. z (omega arith)) in record { at = suc i.at; is = ap (λ (x : ℕ). x % 2) (half q i.at) ∙ i.is }
    go (suc zero) e rest = record { at = 0; is = ap (λ (x : ℕ). x % 2) (div-one q) ∙ e }
    go (suc (suc d)) e rest = absurd (omega arith)

-- a bit at or above n
pub record OneFrom (n w : ℕ) : Type 0 where
  pub at : ℕ
  pub from : n ≤ at
  pub is : w / 2 ^ at % 2 ≡ 1

pub high_one : (n w : ℕ) → ¬ (w < 2 ^ n) → OneFrom n w
high_one n w h =
    let i = some_one (w / 2 ^ n) (w / 2 ^ n) (omega arith) (λ z. h (below z)) in
    record {
      at = n + i.at;
      from = omega arith;
      is = ap (λ (x : ℕ). x % 2) (ap (λ (x : ℕ). w / x) (pow-add 2 n i.at) ∙ sym (div-div-eq-div-mul w (2 ^ n) (2 ^ i.at))) ∙ i.is;
    }
  where
    below : w / 2 ^ n ≡ 0 → w < 2 ^ n
    below z = rw one-mul at ((div-lt_iff_lt-mul {k = 2 ^ n} {x = w} {y = 1} (pow_pos n)).0 (omega (arith, z)))

pub no_high_one : (n w c : ℕ) → w < 2 ^ n → n ≤ c → ¬ (w / 2 ^ c % 2 ≡ 1)
no_high_one n w c h l e =
    let z : w / 2 ^ c ≡ 0 = div-eq_of_lt (omega (arith, pow_mono {i = n} {j = c} l)) in
    let y : w / 2 ^ c % 2 ≡ 0 = rw z refl in
    omega (arith, e, y)
