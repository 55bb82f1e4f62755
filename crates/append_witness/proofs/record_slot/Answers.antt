-- `record_slot` splices the record.
use Prim.Native.Nat.{ℕ}
use mathlib.Core.Path.{◌≡◌}
use native.Mathlib.Omega.{arith}
use Rattle.image.specs.Image.{index}
use Rattle.image.proofs.AppendSteps.{record_within, slot_recorded}
use Rattle.append_witness.proofs.record_slot.Goals as goal

-- the index of numbers that are the log's beginning and the slot
index-as : (first k : ℕ) {f l j : ℕ} → f ≡ first → l ≡ k → j ≡ index f l → j ≡ index first k
index-as first k p q h = rw (p, q) at h

pub put_record-requires : goal.put_record-requires
put_record-requires c =
    record_within c.args.shape c.args.k c.args.image.now c.requires.1 c.requires.2 c.record_at.ensures

pub returns : goal.returns
returns c =
    let s = c.args in
    slot_recorded s.shape s.first s.k s.image.now s.epoch (index-as _ _ (omega arith) (omega arith) c.index_of.ensures) c.record_at.ensures c.put_record.ensures
