-- A card's word, or a witness's.
use Rattle.record.proofs.WitnessLaws.{kind_of}
use Rattle.record.proofs.WriteLaws as law
use native.Mathlib.Omega.{arith}
use Rattle.write_header.proofs.put_word.Goals as goal

pub returns-then-is_witness : goal.returns-then-is_witness
returns-then-is_witness c =
    law.witness_put _ _ _ (kind_of _ _ (omega arith) c.is_witness.ensures c.if-is_witness.true) (omega arith) (omega arith) (omega arith) (omega arith) c.put_bytes.ensures

pub returns : goal.returns
returns c =
    law.word_put _ _ _ (kind_of _ _ (omega arith) c.is_witness.ensures c.if-is_witness.false) (omega arith) (omega arith) (omega arith) (omega arith) c.put_bytes-2.ensures
