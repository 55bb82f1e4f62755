-- What document 01 says of numbers in columns, as a claim that the check demands.
use Rattle.std.specs.Prelude.{ℕ, ◌^◌, ◌<◌, ◌≡◌, length, replicate}
use Rattle.slices.specs.Parts.{Bytes}
use Rattle.column.specs.Column.{column}
use Rattle.column.specs.ColumnState.{column_state, Holds}
use Rattle.column.specs.declared.ColumnState.TheVariants.{Number, Blank, Malformed}

-- a number exactly if the writer writes these bytes for it, blank exactly if they are spaces, malformed exactly if they are neither
pub record Exact : Type 0 where
  pub number_if : (b : Bytes) (x : ℕ) → Holds b x → column_state b ≡ Number x
  pub number_only_if : (b : Bytes) (x : ℕ) → column_state b ≡ Number x → Holds b x
  pub blank_if : (b : Bytes) → b ≡ replicate (length b) 32 → ((x : ℕ) → ¬ (Holds b x)) → column_state b ≡ Blank
  pub blank_only_if : (b : Bytes) → column_state b ≡ Blank → (b ≡ replicate (length b) 32) × ((x : ℕ) → ¬ (Holds b x))
  pub malformed_if : (b : Bytes) → ¬ (b ≡ replicate (length b) 32) → ((x : ℕ) → ¬ (Holds b x)) → column_state b ≡ Malformed
  pub malformed_only_if : (b : Bytes) → column_state b ≡ Malformed → (¬ (b ≡ replicate (length b) 32)) × ((x : ℕ) → ¬ (Holds b x))
  -- what is written is read back
  pub read_back : (w x : ℕ) → x < 10 ^ w → column_state (column w x) ≡ Number x
