-- Laws of `same`, and of the conjunctions that tests are made of.
use Prim.Native.Nat.{ℕ}
use mathlib.Core.Path.{◌≡◌, refl, sym, ◌∙◌, ap}
use mathlib.Core.Bool.{Bool, true, false, ◌&&◌}
use mathlib.Core.List.{[], ◌∷◌, ◌++◌}
use native.Mathlib.Omega.{arith}
use lib.ListN.{length}
use lib.Dec.{eqb}
use borrow.Author.Tests.{eqb-true, eq-eqb}
use Rattle.slices.specs.Parts.{Bytes}
use Rattle.slices.specs.Same.{same}

-- ---- conjunctions

pub and_left : (x y : Bool) → x && y ≡ true → x ≡ true
and_left true y h = refl
and_left false y h = h

pub and_right : (x y : Bool) → x && y ≡ true → y ≡ true
and_right true y h = h
and_right false y h = cc

pub and_true : (x y : Bool) → x ≡ true → y ≡ true → x && y ≡ true
and_true x y h k = rw (h, k)

pub and_on : (t : Bool) → t && true ≡ t
and_on true = refl
and_on false = refl

pub and_off : (x : Bool) → x && false ≡ false
and_off true = refl
and_off false = refl

pub and_unit : (x : Bool) → (x && true) ≡ x
and_unit true = refl
and_unit false = refl

pub and_assoc : (x y z : Bool) → (x && y) && z ≡ x && (y && z)
and_assoc true y z = refl
and_assoc false y z = refl

-- a test that is true and false
pub clash : {b : Bool} → b ≡ true → b ≡ false → ⊥
clash h k = let z : ◌≡◌ {A = Bool} true false = sym h ∙ k in let e : ◌≡◌ {A = ℕ} 0 1 = cc in omega arith

-- what is not true is false
pub not_so : (b : Bool) → (b ≡ true → ⊥) → b ≡ false
not_so true h = absurd (h refl)
not_so false h = refl

-- ---- lists

pub same_refl : (xs : Bytes) → same xs xs ≡ true
unfolding same
same_refl [] = refl
same_refl (x ∷ xs) = rw (eq-eqb x x refl, same_refl xs)

pub same_eq : (xs ys : Bytes) → xs ≡ ys → same xs ys ≡ true
same_eq xs ys e = rw e (same_refl ys)

pub same_true : (xs ys : Bytes) → same xs ys ≡ true → xs ≡ ys
unfolding same
same_true [] [] e = refl
same_true [] (y ∷ ys) e = cc
same_true (x ∷ xs) [] e = cc
same_true (x ∷ xs) (y ∷ ys) e =
    cc (eqb-true x y (and_left (eqb x y) (same xs ys) e), same_true xs ys (and_right (eqb x y) (same xs ys) e))

pub same_false : (xs ys : Bytes) → same xs ys ≡ false → ¬ (xs ≡ ys)
same_false xs ys h e = clash (same_eq xs ys e) h

pub same_differs : (xs ys : Bytes) → ¬ (xs ≡ ys) → same xs ys ≡ false
same_differs xs ys h = not_so (same xs ys) (λ e. h (same_true xs ys e))

pub same_lengths : (xs ys : Bytes) → ¬ (length xs ≡ length ys) → same xs ys ≡ false
same_lengths xs ys h = same_differs xs ys (λ e. h (ap length e))

-- fronts as long are compared by themselves
pub same_append : (a b c d : Bytes) → length a ≡ length c → same (a ++ b) (c ++ d) ≡ same a c && same b d
unfolding same
same_append [] b [] d h = refl
same_append [] b (y ∷ c) d h = absurd (omega arith)
same_append (x ∷ a) b [] d h = absurd (omega arith)
same_append (x ∷ a) b (y ∷ c) d h =
    ap (λ (t : Bool). eqb x y && t) (same_append a b c d (omega arith)) ∙ sym (and_assoc (eqb x y) (same a c) (same b d))
