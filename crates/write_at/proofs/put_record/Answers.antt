-- `put_record` lends 34 bytes to the writer of records.
use Rattle.record.proofs.LayoutLaws.{length_record}
use Rattle.slices.proofs.SpliceLaws.{part_put}
use Rattle.write_at.proofs.put_record.Goals as goal

pub returns : goal.returns
returns c =
    part_put _ _ 34 _ c.write_record.ensures (length_record _ _)
