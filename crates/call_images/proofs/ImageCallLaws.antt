-- The two ends of every call about an image: the answer, with what is handed out, or the refusal, and nothing is.
use Prim.Native.Nat.{ℕ}
use mathlib.Core.Path.{◌≡◌, refl, sym, ap, ◌∙◌}
use mathlib.Core.Bool.{Bool, true, false, cond}
use native.Mathlib.Omega.{arith}
use lib.Dec.{eqb}
use lib.ListN.{length}
use borrow.Author.Tests.{eqb-true}
use Rattle.slices.specs.Parts.{Bytes}
use Rattle.record.specs.declared.Shape.{Shape}
use Rattle.image.specs.Append.{format_refusal, formatted}
use Rattle.image.specs.Answers.{Numbered, refused, value, numbered, format_call_numbers}
use Rattle.image.specs.Refusal.{unless_refused}

-- ---- of an answer in numbers

module _ {A : Type 0} (refusal : ℕ) (v : A) where
  pub answered : (x : A) → value x ≡ numbered refusal v → (0 ≡ refusal) × (x ≡ v)
  unfolding numbered
  answered x = go (eqb refusal 0) refl
    where
      go : (t : Bool) → eqb refusal 0 ≡ t → value x ≡ cond t (value v) (refused refusal) → (0 ≡ refusal) × (x ≡ v)
      go true e h = (sym (eqb-true _ _ e), cc)
      go false e h = absurd (let z : ◌≡◌ {A = ℕ} 0 1 = cc in omega arith)

  pub denied : (x : ℕ) → refused x ≡ numbered refusal v → (x ≡ refusal) × (eqb x 0 ≡ false)
  unfolding numbered
  denied x = go (eqb refusal 0) refl
    where
      go : (t : Bool) → eqb refusal 0 ≡ t → refused x ≡ cond t (value v) (refused refusal) → (x ≡ refusal) × (eqb x 0 ≡ false)
      go true e h = absurd (let z : ◌≡◌ {A = ℕ} 0 1 = cc in omega arith)
      go false e h = let same : x ≡ refusal = cc in (same, rw same e)

-- ---- formatting

-- x is the first index that the code passes on, r what it answers
pub format_done :
    (Z : Shape) (c first x : ℕ) (b after : Bytes) {r : ℕ} →
    (value tt ≡ format_call_numbers Z c x (length b)) × (after ≡ formatted Z c x b) →
    x ≡ first → r ≡ 0 →
    (r ≡ format_refusal Z c first (length b)) × (after ≡ formatted Z c first b)
format_done Z c first x b after h f e =
    (e ∙ (answered (format_refusal Z c x (length b)) tt tt h.0).0 ∙ ap (λ (y : ℕ). format_refusal Z c y (length b)) f, h.1 ∙ ap (λ (y : ℕ). formatted Z c y b) f)

pub format_refused :
    (Z : Shape) (c first x : ℕ) (b after : Bytes) (y : ℕ) {r : ℕ} →
    (refused y ≡ format_call_numbers Z c x (length b)) × (after ≡ formatted Z c x b) →
    x ≡ first → r ≡ y →
    (r ≡ format_refusal Z c first (length b)) × (after ≡ formatted Z c first b)
format_refused Z c first x b after y h f e =
    (e ∙ (denied (format_refusal Z c x (length b)) tt y h.0).0 ∙ ap (λ (z : ℕ). format_refusal Z c z (length b)) f, h.1 ∙ ap (λ (z : ℕ). formatted Z c z b) f)

-- ---- appending

module _ (refusal slot : ℕ) (after new : Bytes) (written : after ≡ new) (old : ℕ) where
  pub append_done : (x : ℕ) → value x ≡ numbered refusal slot → {out : ℕ} → out ≡ x → (0 ≡ refusal) × (after ≡ new) × (out ≡ unless_refused 0 slot old)
  unfolding unless_refused
  append_done x h o = let a = answered refusal slot x h in (a.0, written, o ∙ a.1)

  pub append_refused : (x : ℕ) → refused x ≡ numbered refusal slot → {out : ℕ} → out ≡ x → (out ≡ refusal) × (after ≡ new) × (old ≡ unless_refused out slot old)
  unfolding unless_refused
  append_refused x h o = let a = denied refusal slot x h in (o ∙ a.0, written, rw (o, a.1))

-- ---- reading: of a witness what is filled, its epochs, and of a card its verdicts too

module _ (refusal used first : ℕ) (e es e' : Bytes) (epochs : e' ≡ unless_refused refusal e es) (old-used old-first : ℕ) where
  pub witness_done :
      (len begins : ℕ) →
      ◌≡◌ {A = Numbered (ℕ × ℕ)} (value (len, begins)) (numbered refusal (used, first)) →
      {last-used last-first : ℕ} → last-used ≡ len → last-first ≡ begins →
      (0 ≡ refusal) × (e' ≡ unless_refused 0 e es) × (last-used ≡ unless_refused 0 used old-used) × (last-first ≡ unless_refused 0 first old-first)
  unfolding unless_refused
  witness_done len begins h p q =
      let a = answered refusal (used, first) (len, begins) h in
      (a.0, epochs ∙ rw (← a.0), p ∙ ap (λ (z : ℕ × ℕ). z.0) a.1, q ∙ ap (λ (z : ℕ × ℕ). z.1) a.1)

  pub witness_refused :
      (x : ℕ) →
      ◌≡◌ {A = Numbered (ℕ × ℕ)} (refused x) (numbered refusal (used, first)) →
      {last-used last-first : ℕ} → last-used ≡ old-used → last-first ≡ old-first →
      (x ≡ refusal) × (e' ≡ unless_refused x e es) × (last-used ≡ unless_refused x used old-used) × (last-first ≡ unless_refused x first old-first)
  unfolding unless_refused
  witness_refused x h p q =
      let a = denied refusal (used, first) x h in
      (a.0, epochs ∙ rw (← a.0), p ∙ rw a.1, q ∙ rw a.1)

  module _ (v vs v' : Bytes) (verdicts : v' ≡ unless_refused refusal v vs) where
    pub read_done :
        (len begins : ℕ) →
        ◌≡◌ {A = Numbered (ℕ × ℕ)} (value (len, begins)) (numbered refusal (used, first)) →
        {last-used last-first : ℕ} → last-used ≡ len → last-first ≡ begins →
        (0 ≡ refusal) × (e' ≡ unless_refused 0 e es) × (v' ≡ unless_refused 0 v vs) × (last-used ≡ unless_refused 0 used old-used) × (last-first ≡ unless_refused 0 first old-first)
    unfolding unless_refused
    read_done len begins h p q = let a = witness_done len begins h p q in (a.0, a.1, verdicts ∙ rw (← a.0), a.2, a.3)

    pub read_refused :
        (x : ℕ) →
        ◌≡◌ {A = Numbered (ℕ × ℕ)} (refused x) (numbered refusal (used, first)) →
        {last-used last-first : ℕ} → last-used ≡ old-used → last-first ≡ old-first →
        (x ≡ refusal) × (e' ≡ unless_refused x e es) × (v' ≡ unless_refused x v vs) × (last-used ≡ unless_refused x used old-used) × (last-first ≡ unless_refused x first old-first)
    unfolding unless_refused
    read_refused x h p q = let a = witness_refused x h p q in (a.0, a.1, verdicts ∙ rw (← a.0), a.2, a.3)
