-- `recorded` goes by the kind of the replica.
use Rattle.recovery.proofs.NoteLaws.{recorded_witness, recorded_card}
use native.Mathlib.Omega.{arith}
use Rattle.note.proofs.recorded.Goals as goal

pub returns-then-is_witness : goal.returns-then-is_witness
returns-then-is_witness c =
    recorded_witness _ _ c.is_witness.ensures (omega arith) c.if-is_witness.true (omega arith)

pub returns : goal.returns
returns c =
    recorded_card _ _ c.is_witness.ensures (omega arith) c.if-is_witness.false (omega arith)
