-- `good_slot` compares the epoch of an intact entry with the record's.
use Rattle.image.proofs.SlotLaws.{good_broken, good_same, good_other}
use Rattle.view_slot.proofs.good_slot.Goals as goal

pub returns-in-Some : goal.returns-in-Some
returns-in-Some c =
    good_same _ c.in-Some.is c.if-intact-epoch.true

pub returns-in_default : goal.returns-in_default
returns-in_default c =
    good_other _ c.in-Some.is c.if-intact-epoch.false

pub returns-in_default-2 : goal.returns-in_default-2
returns-in_default-2 c =
    good_broken _ c.in_default.is
