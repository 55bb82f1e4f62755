-- `put_entry` lends 240 bytes to the writer of entries.
use Rattle.record.proofs.LayoutLaws.{length_entry}
use Rattle.slices.proofs.SpliceLaws.{part_put}
use Rattle.write_at.proofs.put_entry.Goals as goal

pub returns : goal.returns
returns c =
    part_put _ _ 240 _ c.write_entry.ensures (length_entry _ _ _ c.requires.1)
