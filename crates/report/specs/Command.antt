-- Document 01, "The printing program": the command line.
use Rattle.std.specs.Prelude.{ℕ, pred, ◌^◌, cond, ◌&&◌, eqb, leb, length, get_or}
use Rattle.slices.specs.Parts.{Bytes, part}
use Rattle.column.specs.ColumnState.{column_state}
use Rattle.column.specs.declared.ColumnState.{ColumnState}
use Rattle.column.specs.declared.ColumnState.TheVariants as column
use Rattle.image.specs.View.{is_size, is_replica}
use Rattle.report.specs.declared.Present.{Present}
use Rattle.report.specs.declared.Present.TheVariants as present
use Rattle.report.specs.declared.Command.{Command}
use Rattle.report.specs.declared.Command.TheVariants as command

-- a column that has to hold a number
unfoldable pub numbered : ColumnState → (ℕ → Command) → Command
numbered (column.Number x) then = then x
numbered column.Blank then = command.Malformed
numbered column.Malformed then = command.Malformed

-- the set's column, which may be blank
unfoldable pub chosen : ColumnState → (Present → Command) → Command
chosen (column.Number w) then = then (present.Set w)
chosen column.Blank then = then present.LeaderAlone
chosen column.Malformed then = command.Malformed

unfoldable pub command_of : ColumnState → ColumnState → ColumnState → ColumnState → Command
command_of n m leader set = numbered n (λ n. numbered m (λ m. numbered leader (λ leader. chosen set (λ set. command.Well n m leader set))))

-- n (3), m (3), leader (3), set (4), newline
unfoldable pub command_line : Bytes → Command
command_line b =
    cond (leb 14 (length b) && eqb (get_or b 13 0) 10)
    (command_of (column_state (part b 0 3)) (column_state (part b 3 3)) (column_state (part b 6 3)) (column_state (part b 9 4)))
    command.Malformed

-- a blank set means the leader alone (02, Ten), and nobody if there is no such replica
unfoldable pub present_of : ℕ → ℕ → Present → ℕ
present_of n leader (present.Set w) = w
present_of n leader present.LeaderAlone = cond (is_size n && is_replica n leader) (2 ^ pred leader) 0
