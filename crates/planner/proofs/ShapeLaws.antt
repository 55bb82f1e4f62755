-- Refusals 1, 2, 3, 11 and 22: the numbers, the sets and the cluster's length.
use Prim.Native.Nat.{ℕ, ◌/◌, ◌^◌, ◌≤◌}
use mathlib.Core.Path.{◌≡◌, refl}
use mathlib.Core.Bool.{Bool, true, false, ◌&&◌}
use native.Mathlib.Omega.{arith}
use native.Mathlib.Nat.{div-eq_of_lt, div-lt_iff_lt-mul, one-mul}
use lib.Pow.{pow_pos}
use lib.Dec.{ltb}
use borrow.Author.Tests.{ltb-true, lt-ltb, eqb-true, not-false}
use Rattle.slices.proofs.SameLaws.{and_left, and_right}
use Rattle.record.specs.declared.Shape.{Shape}
use Rattle.image.specs.View.{is_size, is_slots, is_edition}
use Rattle.image.specs.Cluster.{image_at}
use Rattle.image.proofs.RefusalLaws.{refuse_zero, else_zero_l, else_zero_r}
use Rattle.planner.specs.Plan.{shape_refusal}
use Rattle.image.proofs.ClusterLaws.{images_few}

pub cluster_fits : (Z : Shape) → Z.n ≤ 7 → Z.m ≤ 64 → image_at Z Z.n ≤ 123025
cluster_fits Z h g = omega (arith, images_few Z Z.n g)

pub shifted : (n present : ℕ) → (present / 2 ^ n ≡ 0 → ⊥) → ltb present (2 ^ n) ≡ false
shifted n present e = go (ltb present (2 ^ n)) refl
  where
    go : (t : Bool) → ltb present (2 ^ n) ≡ t → t ≡ false
    go true q = absurd (e (div-eq_of_lt (ltb-true present (2 ^ n) q)))
    go false q = refl

pub unshifted : (n present : ℕ) → present / 2 ^ n ≡ 0 → ltb present (2 ^ n) ≡ true
unshifted n present e =
    lt-ltb present (2 ^ n) (rw one-mul at ((div-lt_iff_lt-mul {k = 2 ^ n} {x = present} {y = 1} (pow_pos n)).0 (omega (arith, e))))

module _ (Z : Shape) (present size : ℕ) where
  module _ (r : shape_refusal Z present size ≡ 0) where
    pub shaped_slots : is_slots Z.m ≡ true
    unfolding shape_refusal
    shaped_slots = not-false _ (refuse_zero 0 _ (else_zero_l _ _ r))

    named_both : (is_size Z.n && is_edition Z.edition) ≡ true
    unfolding shape_refusal
    named_both = not-false _ (refuse_zero 1 _ (else_zero_l _ _ (else_zero_r _ _ r)))

    pub shaped_size : is_size Z.n ≡ true
    shaped_size = and_left (is_size Z.n) (is_edition Z.edition) named_both

    pub shaped_edition : is_edition Z.edition ≡ true
    shaped_edition = and_right (is_size Z.n) (is_edition Z.edition) named_both

    pub shaped_bytes : size ≡ image_at Z Z.n
    unfolding shape_refusal
    shaped_bytes = eqb-true _ _ (not-false _ (refuse_zero 2 _ (else_zero_l _ _ (else_zero_r _ _ (else_zero_r _ _ r)))))
