-- For proofs only. What `by_number` is told of an image by its conditions as numbers; Scan.antt of `image` says it of slots.
use Rattle.std.specs.Prelude.{ℕ, ◌≡◌, List, take}
use Rattle.search.specs.Search.{listed}
use Rattle.image.specs.Image.{Image}
use Rattle.image.specs.View.{condition_number, condition_at, log_length}

-- the numbers of the first m slots
unfoldable pub conditions_of : ℕ → Image → List ℕ
conditions_of m i = listed m (λ k. condition_number (condition_at i k))

-- what is known when the verdicts are filled: the log's length and the conditions
pub record Marked (m : ℕ) (i : Image) (used : ℕ) (conditions : List ℕ) : Type 0 where
  pub length_is : used ≡ log_length m i
  pub conditions_are : take m conditions ≡ conditions_of m i
