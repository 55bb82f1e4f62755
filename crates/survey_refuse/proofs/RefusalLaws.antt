-- The refusals of what a call names, as the code tries them.
use Rattle.std.proofs.Common.{ℕ, suc, ◌^◌, ◌≡◌, Bool, true, false, cond, not, ◌&&◌, eqb, ltb, refl}
use Rattle.record.specs.declared.Shape.{Shape}
use Rattle.image.specs.Refusal.{refuse, ◌else◌}
use Rattle.image.specs.View.{is_size, is_slots, is_edition}
use Rattle.image.specs.Cluster.{image_at}
use Rattle.planner.specs.Plan.{shape_refusal}

tried : (k : ℕ) (t : Bool) (r : ℕ) → (refuse (suc k) t else r) ≡ cond t (suc k) r
unfolding refuse ◌else◌
tried k true r = refl
tried k false r = refl

pub shape_is : (Z : Shape) (present size : ℕ) → shape_refusal Z present size
    ≡ cond (not (is_slots Z.m)) 1 (cond (not (is_size Z.n && is_edition Z.edition)) 2 (cond (not (eqb size (image_at Z Z.n))) 3
    (cond (not (ltb present (2 ^ Z.n))) 11 (cond (not (ltb Z.witnesses (2 ^ Z.n))) 22 0))))
unfolding shape_refusal refuse
shape_is Z present size = simp (tried 0, tried 1, tried 2, tried 10)
