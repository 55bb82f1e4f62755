-- `put_slot` splices the entry and then the record.
use Rattle.image.proofs.AppendSteps.{entry_room, record_room, slot_stored}
use Rattle.append.proofs.put_slot.Goals as goal

pub put_entry-requires : goal.put_entry-requires
put_entry-requires c =
    (entry_room c.args.shape c.args.first c.args.k c.args.image.now c.requires.1 c.requires.2 c.entry_at.ensures, c.requires.3)

pub put_record-requires : goal.put_record-requires
put_record-requires c =
    record_room c.args.shape c.args.first c.args.k c.args.image.now c.requires.1 c.requires.2 c.entry_at.ensures c.args.epoch c.args.payload.now c.requires.3 c.index_of-index.ensures c.put_entry.ensures c.record_at.ensures

pub returns : goal.returns
returns c =
    slot_stored c.args.shape c.args.first c.args.k c.args.image.now c.requires.1 c.requires.2 c.entry_at.ensures c.args.epoch c.args.payload.now c.requires.3 c.index_of-index.ensures c.put_entry.ensures c.record_at.ensures c.put_record.ensures
