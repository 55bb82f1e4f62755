-- What stands in a column: the number whose column these bytes are, only spaces, or anything else.
use Rattle.std.specs.Prelude.{ℕ, ◌^◌, ◌<◌, ◌≡◌, cond, length, replicate}
use Rattle.slices.specs.Parts.{Bytes}
use Rattle.slices.specs.Same.{same}
use Rattle.column.specs.Column.{column, value_of}
use Rattle.column.specs.declared.ColumnState.{ColumnState}
use Rattle.column.specs.declared.ColumnState.TheVariants.{Number, Blank, Malformed}

unfoldable pub column_state : Bytes → ColumnState
column_state b =
    cond (same b (column (length b) (value_of b))) (Number (value_of b)) (cond (same b (replicate (length b) 32)) Blank Malformed)

-- x stands in these bytes: it fits them, and the writer writes them for it
pub record Holds (b : Bytes) (x : ℕ) : Type 0 where
  pub fits : x < 10 ^ length b
  pub bytes : b ≡ column (length b) x
