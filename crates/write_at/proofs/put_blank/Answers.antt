-- `put_blank` lends 34 bytes to the writer of blank records.
use Rattle.record.proofs.LayoutLaws.{length_blank}
use Rattle.slices.proofs.SpliceLaws.{part_put}
use Rattle.write_at.proofs.put_blank.Goals as goal

pub returns : goal.returns
returns c =
    part_put _ _ 34 _ c.write_blank_record.ensures length_blank
