-- The verdicts of slots one after another, of conditions by number.
use Rattle.std.proofs.Common.{ℕ, ◌+◌, ◌<◌, ◌≡◌, List, length, take, get_or, refl, ◌∙◌}
use lib.ListN.{set}
use Rattle.search.specs.Search.{listed}
use Rattle.image.specs.Image.{Image}
use Rattle.image.specs.View.{condition_number, condition_at}
use Rattle.image.specs.declared.condition.Condition.{Condition}
use Rattle.image.specs.Verdict.{verdict_of, verdict_at}
use Rattle.image.proofs.ScannedLaws.{taken_at}
use Rattle.image.proofs.SlotLaws.{list_more}
use Rattle.read_verdicts.specs.ByNumber.{conditions_of, Marked}

module _ (m : ℕ) (i : Image) (used : ℕ) (cs : List ℕ) (k v : ℕ) (vs : List ℕ) (h : k < m) where
  verdict_here : {a : Condition} → ((b : Condition) → get_or cs k 0 ≡ condition_number b → a ≡ b)
      → v ≡ verdict_of used k a (i.entries k) → Marked m i used cs → v ≡ verdict_at m i k
  unfolding verdict_at conditions_of
  verdict_here named e s =
      e ∙ rw (named (condition_at i k) (taken_at m (λ j. condition_number (condition_at i j)) cs 0 s.conditions_are k h), s.length_is) refl

  pub verdicts_more : {a : Condition} → ((b : Condition) → get_or cs k 0 ≡ condition_number b → a ≡ b) → k < length vs
      → v ≡ verdict_of used k a (i.entries k) → (Marked m i used cs → take k vs ≡ listed k (verdict_at m i))
      → Marked m i used cs → take (k + 1) (set vs k v) ≡ listed (k + 1) (verdict_at m i)
  verdicts_more named l e f s = list_more (verdict_at m i) k v vs l (f s) (verdict_here named e s)
