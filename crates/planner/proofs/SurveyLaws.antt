-- Conditions by number, as a survey has them.
use Prim.Native.Nat.{ℕ, zero, suc, ◌≤◌}
use mathlib.Core.Path.{◌≡◌, refl}
use mathlib.Core.Bool.{false, not, ◌||◌}
use native.Mathlib.Omega.{arith}
use lib.Dec.{eqb}
use borrow.Author.Tests.{ne_eqb}
use Rattle.image.specs.Read.{is_whole}
use Rattle.planner.specs.Rules.{is_faulty, is_used}
use Rattle.planner.specs.Survey.{condition_from}

-- ---- conditions by number

-- a number above 4 is none of the others
above : (x b : ℕ) → b ≤ 3 → eqb (suc (suc (suc (suc (suc x))))) b ≡ false
above x b h = ne_eqb (suc (suc (suc (suc (suc x))))) b (λ e. omega arith)

pub whole_number : (x : ℕ) → is_whole (condition_from x) ≡ (eqb x 1 || eqb x 2)
unfolding is_whole condition_from
whole_number zero = refl
whole_number (suc zero) = refl
whole_number (suc (suc zero)) = refl
whole_number (suc (suc (suc zero))) = refl
whole_number (suc (suc (suc (suc zero)))) = refl
whole_number (suc (suc (suc (suc (suc x))))) = rw (above x 1 (omega arith), above x 2 (omega arith)) refl

pub used_number : (x : ℕ) → is_used (condition_from x) ≡ not (eqb x 0)
unfolding is_used condition_from
used_number zero = refl
used_number (suc zero) = refl
used_number (suc (suc zero)) = refl
used_number (suc (suc (suc zero))) = refl
used_number (suc (suc (suc (suc zero)))) = refl
used_number (suc (suc (suc (suc (suc x))))) = rw (above x 0 (omega arith)) refl

pub faulty_number : (x : ℕ) → is_faulty (condition_from x) ≡ eqb x 3
unfolding is_faulty condition_from
faulty_number zero = refl
faulty_number (suc zero) = refl
faulty_number (suc (suc zero)) = refl
faulty_number (suc (suc (suc zero))) = refl
faulty_number (suc (suc (suc (suc zero)))) = refl
faulty_number (suc (suc (suc (suc (suc x))))) = rw (above x 3 (omega arith)) refl
