-- `slot_at` judges the record, and the entry only of a slot that is used.
use native.Mathlib.Omega.{arith}
use Rattle.image.proofs.DecodeLaws.{records_end}
use Rattle.image.proofs.SlotLaws.{slot_good, slot_blank, slot_bad, is_bad}
use borrow.Author.Rules.{rules}
use Rattle.view_slot.proofs.slot_at.Goals as goal

pub record_state-record-requires : goal.record_state-record-requires
record_state-record-requires c =
    (search rules, search rules, omega (arith, c.requires.2, records_end c.args.shape c.args.replica))

pub returns-in-Blank : goal.returns-in-Blank
returns-in-Blank c =
    slot_blank _ _ c.in-Blank.is (c.record_state-record.ensures _)

pub returns-in_default : goal.returns-in_default
returns-in_default c =
    slot_bad _ _ _ (is_bad _ c.in_default.not-Good c.in_default-record.not-Blank) (c.record_state-record.ensures _) (λ b. c.bad_slot.ensures b _ c.entry_of.ensures)

pub returns : goal.returns
returns c =
    slot_good _ _ _ c.in-Good.is (c.record_state-record.ensures _) (c.good_slot.ensures _ c.entry_of-2.ensures)
