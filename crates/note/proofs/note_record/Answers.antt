-- `note_record` leaves nothing to do at a slot, whether it was used or not.
use Rattle.recovery.proofs.NoteLaws.{noted_record}
use Rattle.note.proofs.note_record.Goals as goal

pub returns : goal.returns
returns c =
    noted_record _ _ _ _ _ _ c.length_with-grown.ensures c.with_slot.ensures c.recorded.ensures
