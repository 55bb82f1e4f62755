-- The calls about columns and headers: what they answer and leave in what they were lent, for any bytes, and each as one contract, which the
-- call cites and its export says in full. An answer is a code; a number that is handed out with it keeps its old value where there is nothing to hand out.
use Rattle.std.specs.Prelude.{ℕ, ◌≡◌, cond, eqb, leb, length, Option, Some, None}
use Rattle.slices.specs.Parts.{Bytes}
use Rattle.checksum.specs.Checksum.{checksum_of}
use Rattle.column.specs.Column.{column}
use Rattle.column.specs.ColumnState.{column_state}
use Rattle.column.specs.declared.ColumnState.{ColumnState}
use Rattle.column.specs.declared.ColumnState.TheVariants as column-state
use Rattle.record.specs.Layout.{header_size, header_bytes}
use Rattle.record.specs.Meaning.{read_header}
use Rattle.record.specs.Judged.{header_answer}
use Rattle.record.specs.declared.Shape.{Shape}
use Rattle.image.specs.Refusal.{unless_refused}

-- document 01's refusal 3, for a piece that is not `size` bytes long
unfoldable pub size_refusal : ℕ → Bytes → ℕ
size_refusal size b = cond (eqb (length b) size) 0 3

-- 0 if the header is the writer's, else 1
abbrev pub header_state_code : Option ℕ → ℕ
header_state_code (Some first) = 0
header_state_code None = 1

-- the first index that the writer's header gives
abbrev pub header_state_out : Option ℕ → ℕ → ℕ
header_state_out (Some first) old = first
header_state_out None old = old

unfoldable pub header_code : Shape → ℕ → Bytes → ℕ
header_code Z c b = header_state_code (header_answer (read_header Z c b))

unfoldable pub header_out : Shape → ℕ → Bytes → ℕ → ℕ
header_out Z c b old = header_state_out (header_answer (read_header Z c b)) old

-- a column's state by code, and the number that stands in it
abbrev pub column_state_code : ColumnState → ℕ
column_state_code (column-state.Number x) = 0
column_state_code column-state.Blank = 1
column_state_code column-state.Malformed = 2

abbrev pub column_state_out : ColumnState → ℕ → ℕ
column_state_out (column-state.Number x) old = x
column_state_out column-state.Blank old = old
column_state_out column-state.Malformed old = old

-- a column wider than 19 bytes can hold more than 64 bits: 3
unfoldable pub column_code : Bytes → ℕ
column_code b = cond (leb (length b) 19) (column_state_code (column_state b)) 3

unfoldable pub column_out : Bytes → ℕ → ℕ
column_out b old = cond (leb (length b) 19) (column_state_out (column_state b) old) old

-- The contracts. Each takes what its call takes, in its order, of all that is lent to be written the old and the new content, and then the
-- answer, if there is one.
abbrev pub ChecksumCall : Bytes → ℕ → Type 0
ChecksumCall b r = r ≡ checksum_of b

abbrev pub WriteNumberCall : Bytes → Bytes → ℕ → Type 0
WriteNumberCall old new x = new ≡ column (length old) x

abbrev pub ReadColumnCall : Bytes → ℕ → ℕ → ℕ → Type 0
ReadColumnCall b value value' r = (r ≡ column_code b) × (value' ≡ column_out b value)

abbrev pub WriteHeaderCall : Bytes → Bytes → Shape → ℕ → ℕ → ℕ → Type 0
WriteHeaderCall old new Z c first r = (r ≡ size_refusal (header_size Z) old) × (new ≡ unless_refused r (header_bytes Z c first) old)

abbrev pub JudgeHeaderCall : Bytes → Shape → ℕ → ℕ → ℕ → ℕ → Type 0
JudgeHeaderCall b Z c first first' r = (r ≡ header_code Z c b) × (first' ≡ header_out Z c b first)
