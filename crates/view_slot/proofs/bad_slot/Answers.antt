-- `bad_slot` takes the epoch of an intact entry.
use Rattle.image.proofs.SlotLaws.{bad_broken, bad_intact}
use Rattle.view_slot.proofs.bad_slot.Goals as goal

pub returns-in-Some : goal.returns-in-Some
returns-in-Some c =
    bad_intact c.in-Some.is

pub returns-in-None : goal.returns-in-None
returns-in-None c =
    bad_broken c.in-None.is
