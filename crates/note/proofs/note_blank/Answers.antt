-- `note_blank` ends the log at the slot.
use Rattle.recovery.proofs.NoteLaws.{noted_blank}
use native.Mathlib.Omega.{arith}
use Rattle.note.proofs.note_blank.Goals as goal

pub returns : goal.returns
returns c =
    λ Z. noted_blank Z _ _ _ _ c.with_slot.ensures (omega arith)
