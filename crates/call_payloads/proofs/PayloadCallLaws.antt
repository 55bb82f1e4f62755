-- The two ends of every call about a payload: the answer, with what is handed out, or the refusal, and nothing is.
use Prim.Native.Nat.{ℕ, ◌-◌}
use mathlib.Core.Path.{◌≡◌, sym, ap, ◌∙◌}
use mathlib.Core.Bool.{Bool}
use native.Mathlib.Omega.{arith}
use lib.ListN.{length}
use Rattle.slices.specs.Parts.{Bytes, part}
use Rattle.slices.proofs.PartLaws.{length_part}
use Rattle.record.specs.declared.Shape.{Shape}
use Rattle.image.specs.Scan.{SpanIn}
use Rattle.image.specs.Answers.{Numbered, refused, value, numbered, payload_call_numbers}
use Rattle.image.specs.Refusal.{unless_refused}
use Rattle.call_images.proofs.ImageCallLaws.{answered, denied}
use Rattle.call_payloads.specs.Payloads.{flag}

-- ---- whether there is a payload

-- x is the slot that the code asks for
pub has_at : (Z : Shape) (c : ℕ) (b : Bytes) (s x : ℕ) {y : Numbered Bool} → y ≡ payload_call_numbers Z c b x → x ≡ s → y ≡ payload_call_numbers Z c b s
has_at Z c b s x h e = rw e at h

module _ (refusal : ℕ) (has : Bool) (old : ℕ) where
  pub has_found : (found : Bool) → value found ≡ numbered refusal has → {out : ℕ} → out ≡ flag found → (0 ≡ refusal) × (out ≡ unless_refused 0 (flag has) old)
  unfolding unless_refused
  has_found found h o = let a = answered refusal has found h in (a.0, o ∙ ap flag a.1)

  pub has_refused : (x : ℕ) → refused x ≡ numbered refusal has → {r : ℕ} → r ≡ x → (r ≡ refusal) × (old ≡ unless_refused r (flag has) old)
  unfolding unless_refused
  has_refused x h e = let a = denied refusal has x h in (e ∙ a.0, rw (e, a.1))

-- ---- where it stands

pub payload_part :
    (b p : Bytes) (start end at : ℕ) → SpanIn (length b) start end → (part b start (end - start) ≡ p) × (start ≡ at) →
    {first size : ℕ} → first ≡ start → size ≡ end - start →
    (first ≡ at) × (size ≡ length p) × (part b first size ≡ p)
payload_part b p start end at fits stands f e = (
  f ∙ stands.1,
  e ∙ sym (length_part b start (end - start) (let o = fits.ordered in let w = fits.within in omega arith)) ∙ ap length stands.0,
  rw (f, e) stands.0,
)
