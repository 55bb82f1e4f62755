-- Splices of one size, one behind the other, are one splice.
use Prim.Native.Nat.{ℕ, ◌+◌, ◌*◌, ◌≤◌}
use mathlib.Core.Path.{◌≡◌, sym, ap, ◌∙◌}
use mathlib.Core.List.{◌++◌, append_assoc}
use native.Mathlib.Omega.{arith}
use native.Mathlib.Numerals.{add-one}
use lib.ListN.{length, take, drop, length-append, take-append-drop}
use lib.Seq.{length-take-le, drop-drop}
use Rattle.search.specs.Search.{joined}
use Rattle.search.proofs.ListedLaws.{length_joined}
use Rattle.slices.specs.Parts.{Bytes, spliced}
use Rattle.slices.proofs.SpliceLaws.{length_spliced, spliced_next}

-- a splice right behind another
pub spliced_more : (b v w : Bytes) (a k : ℕ) → a + length v ≡ k → k ≤ length b → spliced (spliced b a v) k w ≡ spliced b a (v ++ w)
unfolding spliced
spliced_more b v w a k e h =
    ap (λ (t : Bytes). spliced t k w) (sym (append_assoc (take a b) v (drop (a + length v) b)))
    ∙ spliced_next (take a b ++ v) (drop (a + length v) b) w k size
    ∙ (let z : a + length v + length w ≡ a + (length v + length w) = omega arith in simp (append_assoc, drop-drop, length-append, z))
  where
    size : length (take a b ++ v) ≡ k
    size = length-append (take a b) v ∙ omega (arith, length-take-le a b (omega arith))

-- copies of v from offset a on
module _ (b : Bytes) (a s : ℕ) (v : Bytes) (size : length v ≡ s) where
  copies : (k : ℕ) → length (joined k (λ j. v)) ≡ s * k
  copies k = length_joined k s (λ j. v) (λ j h. size)

  pub fill_start : b ≡ spliced b a (joined 0 (λ j. v))
  unfolding spliced joined
  fill_start = let z : a + 0 ≡ a = omega arith in rw z (sym (take-append-drop a b))

  pub fill_length : (k : ℕ) {t : Bytes} → t ≡ spliced b a (joined k (λ j. v)) → a + s * k ≤ length b → length t ≡ length b
  fill_length k e h = ap length e ∙ length_spliced b a (joined k (λ j. v)) (omega (arith, copies k))

  pub fill_step : (k : ℕ) {at : ℕ} → at ≡ a + s * k → {t u : Bytes} → t ≡ spliced b a (joined k (λ j. v)) → u ≡ spliced t at v → a + s * k ≤ length b
      → u ≡ spliced b a (joined (k + 1) (λ j. v))
  unfolding joined
  fill_step k {at} p e f h =
      f ∙ ap (λ (t : Bytes). spliced t at v) e ∙ rw (p, add-one) (spliced_more b (joined k (λ j. v)) v a (a + s * k) (omega (arith, copies k)) h)
