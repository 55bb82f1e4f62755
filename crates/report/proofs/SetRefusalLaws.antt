-- Which refusal is printed of a set: 1, 2 and 3 come before 11 and 12, and 11 before 12.
use Prim.Native.Nat.{ℕ, zero, suc, ◌^◌, ◌≤◌}
use mathlib.Core.Path.{◌≡◌, refl, sym, ap, ◌∙◌}
use mathlib.Core.Bool.{Bool, true, false, not, ◌&&◌}
use native.Mathlib.Omega.{arith}
use lib.Dec.{ltb}
use lib.Pow.{pow_pos}
use borrow.Author.Tests.{lt-ltb, le-ltb}
use Rattle.slices.specs.Parts.{Bytes}
use Rattle.record.specs.declared.Shape.{Shape}
use Rattle.image.specs.Refusal.{refuse, ◌else◌}
use Rattle.image.specs.View.{is_size, is_replica}
use Rattle.image.proofs.CallLaws.{is_edition_lem}
use Rattle.image.proofs.RefusalLaws.{else_zero_r}
use Rattle.planner.specs.Setting.{setting_of}
use Rattle.planner.specs.Rules.{may_lead, same_firsts}
use Rattle.planner.specs.Plan.{views_in, shape_refusal, cluster_refusal}
use Rattle.report.specs.Report.{refused_line, cluster_report}
use Rattle.report.specs.SetClaim.{after_shape}
use Rattle.report.proofs.ReportLaws.{refused_report}

else_assoc : (r s t : ℕ) → ((r else s) else t) ≡ (r else (s else t))
unfolding ◌else◌
else_assoc zero s t = refl
else_assoc (suc r) s t = refl

and_on : (t : Bool) → (t && true) ≡ t
and_on true = refl
and_on false = refl

module _ (Z : Shape) (one : Z.edition ≡ 1) (leader present : ℕ) (b : Bytes) where
  -- what is tried behind 1, 2 and 3
  abbrev later : ℕ
  later =
      refuse 11 (not (ltb present (2 ^ Z.n)))
      else refuse 22 (not (ltb Z.witnesses (2 ^ Z.n)))
      else refuse 12 (not (is_replica Z.n leader && may_lead (setting_of Z leader present) (views_in (setting_of Z leader present) b)))
      else refuse 21 (not (same_firsts (setting_of Z leader present) (views_in (setting_of Z leader present) b)))

  in_order : cluster_refusal Z leader present b ≡ after_shape Z b later
  unfolding cluster_refusal shape_refusal after_shape
  in_order = rw (is_edition_lem Z.edition (omega arith) (omega arith), and_on (is_size Z.n)) (simp else_assoc)

  shows : (r : ℕ) → later ≡ suc r → cluster_report Z leader present b ≡ refused_line (after_shape Z b (suc r))
  unfolding after_shape
  shows r e =
      sym (refused_report Z leader present b (sym (in_order ∙ ap (after_shape Z b) e))
      (λ z. omega (arith, else_zero_r _ _ (else_zero_r _ _ (else_zero_r _ _ z)))))

  pub stray_refused : {r : ℕ} → 2 ^ Z.n ≤ present → r ≡ 11 → cluster_report Z leader present b ≡ refused_line (after_shape Z b r)
  unfolding refuse ◌else◌
  stray_refused h q = rw q (shows 10 (rw (le-ltb present (2 ^ Z.n) h) refl))

pub no_leader_refused : (Z : Shape) → Z.edition ≡ 1 → Z.witnesses ≡ 0 → (leader : ℕ) (b : Bytes) {r : ℕ} → is_replica Z.n leader ≡ false → r ≡ 12
    → cluster_report Z leader 0 b ≡ refused_line (after_shape Z b r)
unfolding refuse ◌else◌
no_leader_refused Z one none leader b e q = rw q (shows Z one leader 0 b 11 (rw (lt-ltb 0 (2 ^ Z.n) (pow_pos Z.n), lt-ltb Z.witnesses (2 ^ Z.n) (omega (arith, pow_pos Z.n)), e) refl))
