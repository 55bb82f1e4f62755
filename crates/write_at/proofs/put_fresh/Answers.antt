-- `put_fresh` lends 240 bytes to the writer of fresh entries.
use Rattle.record.proofs.LayoutLaws.{length_fresh}
use Rattle.slices.proofs.SpliceLaws.{part_put}
use Rattle.write_at.proofs.put_fresh.Goals as goal

pub returns : goal.returns
returns c =
    part_put _ _ 240 _ c.write_fresh_entry.ensures length_fresh
