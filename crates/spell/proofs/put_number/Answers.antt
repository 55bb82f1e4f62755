-- `put_number` lends the column, and writes it.
use Rattle.column.proofs.ColumnLaws.{column_put}
use Rattle.spell.proofs.put_number.Goals as goal

pub returns : goal.returns
returns c =
    column_put _ _ _ _ c.requires c.write_number.ensures
