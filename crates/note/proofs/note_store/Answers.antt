-- `note_store` goes by the kind of the store.
use mathlib.Core.Path.{ap}
use Rattle.protocol.specs.Store.{store_replica, store_slot}
use Rattle.recovery.specs.NextStore.{store_of}
use Rattle.recovery.proofs.MadeLaws.{no_store, that_store}
use Rattle.note.proofs.note_store.Goals as goal

pub note_entry-requires : goal.note_entry-requires
unfolding store_replica store_slot
note_entry-requires c =
    c.requires _ (ap store_of c.in-Entry.is)

pub note_record-requires : goal.note_record-requires
unfolding store_replica store_slot
note_record-requires c =
    c.requires _ (ap store_of c.in-Record.is)

pub note_blank-requires : goal.note_blank-requires
unfolding store_replica store_slot
note_blank-requires c =
    c.requires _ (ap store_of c.in-Blank.is)

pub returns-in-Nothing : goal.returns-in-Nothing
returns-in-Nothing c =
    no_store _ (ap store_of c.in-Nothing.is)

pub returns-in-Entry : goal.returns-in-Entry
returns-in-Entry c =
    that_store _ (ap store_of c.in-Entry.is) (c.note_entry.ensures _ _)

pub returns-in-Record : goal.returns-in-Record
returns-in-Record c =
    that_store _ (ap store_of c.in-Record.is) c.note_record.ensures

pub returns-in-Blank : goal.returns-in-Blank
returns-in-Blank c =
    that_store _ (ap store_of c.in-Blank.is) (c.note_blank.ensures _)
