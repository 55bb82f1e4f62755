-- `note_entry` makes a used slot whole, and leaves the survey behind the log.
use Rattle.recovery.proofs.NoteLaws.{noted_entry, noted_mended}
use native.Mathlib.Omega.{arith}
use Rattle.note.proofs.note_entry.Goals as goal

pub returns-then-length-k : goal.returns-then-length-k
returns-then-length-k c =
    λ Z. noted_entry Z _ _ _ (omega arith)

pub returns : goal.returns
returns c =
    λ Z. noted_mended Z _ _ _ _ (omega arith) c.with_slot.ensures (omega arith)
